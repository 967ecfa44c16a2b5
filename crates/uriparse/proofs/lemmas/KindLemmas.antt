-- The result of reading a reference of one kind.
use Rattle.std.proofs.Common.{◌≡◌, ℕ, ◌<◌, Bool, true, false, cond, List, [], ◌∷◌, length, arith, Option, None, Some, Ok, Err, inl, inr, refl, sym, ap, ◌∙◌}
use Rattle.std.specs.Prelude.{◌⊎◌, IfOk, IfSome, Result, is_some}
use Rattle.std.specs.Bool.{beq}
use Rattle.std.specs.Option.{option_map, option_or}
use Rattle.uriparse_text.specs.Readings.{◌>>=◌, IsUnless, fault_in, unless_fault}
use Rattle.uriparse_reference.specs.declared.uri_reference.error.URIReferenceError.{URIReferenceError}
use Rattle.uriparse_reference.specs.Reference.{Parts, Spells}
use Rattle.uriparse_reference.specs.Offset.{fault_offset, first_fault}
use Rattle.uriparse_reference.specs.Reading.{reading}
use Rattle.uriparse_reference.proofs.lemmas.reading.ReadingLemmas.{again, found}
use Rattle.uriparse.specs.Kinds.{IsOfKind, fault_of, first_fault_of, of_kind, reading_of, with_mapped_error}

-- a reference of the kind is taken
pub of_its_kind : {E : Type 0} (v : Bool) (other : E) (p : Parts) → IsOfKind v p → of_kind v other p ≡ Ok p
of_its_kind v other p k = ap (λ b. cond (beq b v) (Ok p) (Err other)) k ∙ ap (λ b. cond b (Ok p) (Err other)) (same v)
  where
    same : (b : Bool) → beq b b ≡ true
    same true = refl
    same false = refl

-- a text that is spelled is read
pub read_of : {E : Type 0} (v : Bool) (map_error : URIReferenceError → E) (other : E) (t : List ℕ) (p : Parts) → Spells t p
    → reading_of v map_error other t ≡ of_kind v other p
read_of v map_error other t p s = ap (λ r. with_mapped_error map_error r >>= of_kind v other) (again t p s)

-- a text that spells a reference of the kind has no fault
pub faultless : {E : Type 0} (v : Bool) (map_error : URIReferenceError → E) (other : E) (t : List ℕ) (p : Parts) → Spells t p → IsOfKind v p
    → fault_of v map_error other t ≡ None
faultless v map_error other t p s k = ap fault_in (read_of v map_error other t p s ∙ of_its_kind v other p k)

-- what is taken is what was read
taken_by : {E : Type 0} (other : E) (p q : Parts) (b : Bool) → ◌≡◌ {A = Result Parts E} (Ok p) (cond b (Ok q) (Err other))
    → ◌≡◌ {A = Result Parts URIReferenceError} (Ok q) (Ok p)
taken_by other p q true h =
    let same : q ≡ p = cc in
    ap Ok same
taken_by other p q false h = absurd (cc)

pub taken : {E : Type 0} (v : Bool) (map_error : URIReferenceError → E) (other : E) (r : Result Parts URIReferenceError) (p : Parts)
    → ◌≡◌ {A = Result Parts E} (Ok p) (with_mapped_error map_error r >>= of_kind v other) → r ≡ Ok p
taken v map_error other (Ok q) p h = taken_by other p q (beq (is_some q.scheme) v) h
taken v map_error other (Err e) p h = absurd (cc)

-- ---- the result of the reading in the grammar's words

pub kind_found : {E : Type 0} (v : Bool) (map_error : URIReferenceError → E) (other x : E) (t : List ℕ) (r : Result Parts E)
    → IsUnless x r (reading_of v map_error other t) → IfOk r (λ p. Spells t p)
kind_found v map_error other x t (Ok p) (inl h) = found t p (taken v map_error other (reading t) p h)
kind_found v map_error other x t (Ok p) (inr h) = absurd (cc)
kind_found v map_error other x t (Err e) h = tt

pub kind_only : {E : Type 0} (v : Bool) (map_error : URIReferenceError → E) (other x : E) (t : List ℕ) (r : Result Parts E)
    → IsUnless x r (reading_of v map_error other t) → (p : Parts) → Spells t p → IsOfKind v p → IsUnless x r (Ok p)
kind_only v map_error other x t r (inl h) p s k = inl (h ∙ read_of v map_error other t p s ∙ of_its_kind v other p k)
kind_only v map_error other x t r (inr h) p s k = inr h

-- ---- what a check by the pieces returns

pub map_some : {A B : Type 0} (f : A → B) (o : Option A) → is_some (option_map f o) ≡ is_some o
map_some f None = refl
map_some f (Some x) = refl

checked_by : {E : Type 0} (other : E) (p : Parts) (b : Bool)
    → ◌≡◌ {A = Result (Unit {0}) E} (cond b (Ok tt) (Err other)) (unless_fault (fault_in (cond b (Ok p) (Err other))) tt)
checked_by other p true = refl
checked_by other p false = refl

-- a text that is read is rejected for its kind alone
pub checked : {E : Type 0} (v : Bool) (map_error : URIReferenceError → E) (other : E) (t : List ℕ) (p : Parts) (b : Bool) → b ≡ is_some p.scheme
    → reading t ≡ Ok p → ◌≡◌ {A = Result (Unit {0}) E} (cond (beq b v) (Ok tt) (Err other)) (unless_fault (fault_of v map_error other t) tt)
checked v map_error other t p b is h =
    ap (λ x. cond (beq x v) (Ok tt) (Err other)) is ∙ checked_by other p (beq (is_some p.scheme) v)
    ∙ ap (λ r. unless_fault (fault_in (with_mapped_error map_error r >>= of_kind v other)) tt) (sym h)

-- a text that isn't read is rejected for its fault
pub unchecked : {E : Type 0} (v : Bool) (map_error : URIReferenceError → E) (other : E) (t : List ℕ) (e : URIReferenceError) → reading t ≡ Err e
    → ◌≡◌ {A = Result (Unit {0}) E} (Err (map_error e)) (unless_fault (fault_of v map_error other t) tt)
unchecked v map_error other t e h = ap (λ r. unless_fault (fault_in (with_mapped_error map_error r >>= of_kind v other)) tt) (sym h)

-- ---- where a text is wrong

abbrev at_zero : {E : Type 0} → E → ℕ × E
at_zero x = (0, x)

module _ {E : Type 0} (v : Bool) (map_error : URIReferenceError → E) (other : E) where
  pub faulty_offset : (t : List ℕ) (n : ℕ) (e : URIReferenceError) → first_fault t ≡ Some (n, e) → first_fault_of v map_error other t ≡ Some (n, map_error e)
  faulty_offset t n e h = ap (λ o. option_or (option_map (λ f. (f.0, map_error f.1)) o) (option_map (λ x. (0, x)) (fault_of v map_error other t))) h

  pub other_offset : (t : List ℕ) (o : Option E) → first_fault t ≡ None → fault_of v map_error other t ≡ o → first_fault_of v map_error other t ≡ option_map (λ x. (0, x)) o
  other_offset t o h k =
      ap (λ u. option_or (option_map (λ f. (f.0, map_error f.1)) u) (option_map (λ x. (0, x)) (fault_of v map_error other t))) h ∙ ap (option_map (λ x. (0, x))) k

  zero_dropped : (o : Option E) → option_map (λ f. f.1) (option_map at_zero o) ≡ o
  zero_dropped None = refl
  zero_dropped (Some x) = refl

  -- the error is that of the readers
  pub told_fault : (t : List ℕ) → option_map (λ f. f.1) (first_fault_of v map_error other t) ≡ fault_of v map_error other t
  told_fault t = by_reading (reading t)
    where
      by_reading : (r : Result Parts URIReferenceError)
          → option_map (λ (f : ℕ × E). f.1) (option_or (option_map (λ (f : ℕ × URIReferenceError). (f.0, map_error f.1)) (option_map (λ e. (fault_offset e t, e)) (fault_in r)))
          (option_map (λ x. (0, x)) (fault_in (with_mapped_error map_error r >>= of_kind v other))))
          ≡ fault_in (with_mapped_error map_error r >>= of_kind v other)
      by_reading (Ok p) = zero_dropped (fault_in (of_kind v other p))
      by_reading (Err e) = refl

pub checked_fault : {A E : Type 0} (o : Option E) (x : A) (e : E) → unless_fault o x ≡ Err e → o ≡ Some e
checked_fault None x e h = absurd (cc)
checked_fault (Some y) x e h = let same : y ≡ e = cc in ap Some same

pub checked_none : {A E : Type 0} (o : Option E) (x : A) → ◌≡◌ {A = Result A E} (unless_fault o x) (Ok x) → o ≡ None
checked_none None x h = refl
checked_none (Some y) x h = absurd (cc)

pub some_or_none : (t : List ℕ) → (0 < length t) ⊎ (t ≡ [])
some_or_none [] = inr refl
some_or_none (b ∷ t) = inl (omega arith)

pub zero_within : {E : Type 0} (t : List ℕ) (o : Option E) → IfSome (option_map at_zero o) (λ f. (f.0 < length t) ⊎ (t ≡ []))
zero_within t None = tt
zero_within t (Some x) = some_or_none t
