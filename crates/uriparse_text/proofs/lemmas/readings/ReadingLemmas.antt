-- Readings of pieces, one after another.
use Rattle.std.proofs.Common.{◌≡◌, ℕ, List, Option, Some, None, Ok, Err, refl, sym, ap, ◌∙◌}
use Rattle.std.specs.Prelude.{Result, IfSome}
use Rattle.std.specs.Option.{option_map}
use Rattle.uriparse_text.specs.declared.internal.class.Class.{Class}
use Rattle.uriparse_text.specs.Faults.{fault, IsIn}
use Rattle.uriparse_text.specs.Readings.{unless_fault, reading_in, ◌>>=◌, of_piece, fault_in, some_of, if_present, IfPresent}
use Rattle.uriparse_text.proofs.lemmas.classes.FaultLemmas.{no_fault}

-- A reading is exact if it returns what the relation says.
pub record IsExact {E A : Type 0} (Spells : List ℕ → A → Type 0) (read : List ℕ → Result A E) : Type 0 where
  pub again : (t : List ℕ) (x : A) → Spells t x → read t ≡ Ok x
  pub found : (t : List ℕ) (x : A) → read t ≡ Ok x → Spells t x

-- a text of the class stands for itself
pub record IsItself (class : Class) (t x : List ℕ) : Type 0 where
  pub same : x ≡ t
  pub fine : IsIn class t

pub exact_in : {E : Type 0} (class : Class) (error : ℕ → E) → IsExact (IsItself class) (reading_in class error)
exact_in {E} class error = record {
  again = λ t x is. ap (λ o. unless_fault (option_map error o) t) ((no_fault class t).1 is.fine) ∙ ap Ok (sym is.same);
  found = λ t x h. by_fault t (fault class t) refl x h;
}
  where
    by_fault : (t : List ℕ) (o : Option ℕ) → fault class t ≡ o → (x : List ℕ) → unless_fault (option_map error o) t ≡ Ok x → IsItself class t x
    by_fault t None e x h = record { same = cc; fine = (no_fault class t).0 e }
    by_fault t (Some b) e x h = cc

-- a piece that may be absent
pub present_again : {E A : Type 0} (Spells : List ℕ → A → Type 0) (read : List ℕ → Result A E) → IsExact Spells read → (o : Option (List ℕ)) (r : Option A)
    → IfPresent Spells o r → if_present read o ≡ Ok r
present_again Spells read exact None None h = refl
present_again Spells read exact None (Some x) h = absurd h
present_again Spells read exact (Some t) None h = absurd h
present_again Spells read exact (Some t) (Some x) h = ap some_of (exact.again t x h)

pub present_found : {E A : Type 0} (Spells : List ℕ → A → Type 0) (read : List ℕ → Result A E) → IsExact Spells read → (o : Option (List ℕ)) (r : Option A)
    → if_present read o ≡ Ok r → IfPresent Spells o r
present_found Spells read exact None None h = tt
present_found Spells read exact None (Some x) h = cc
present_found {E} {A} Spells read exact (Some t) r h = by_reading (read t) refl r h
  where
    by_reading : (s : Result A E) → read t ≡ s → (r : Option A) → some_of s ≡ Ok r → IfPresent Spells (Some t) r
    by_reading (Ok x) e None k = cc
    by_reading (Ok x) e (Some y) k = let p : x ≡ y = cc in exact.found t y (e ∙ ap Ok p)
    by_reading (Err y) e r k = cc

-- an optional text of a class
pub texts_again : {E : Type 0} (class : Class) (error : ℕ → E) (o : Option (List ℕ)) → IfSome o (IsIn class) → if_present (reading_in class error) o ≡ Ok o
texts_again class error None h = refl
texts_again class error (Some t) h = ap some_of ((exact_in class error).again t t (record { same = refl; fine = h }))

pub texts_found : {E : Type 0} (class : Class) (error : ℕ → E) (o r : Option (List ℕ)) → if_present (reading_in class error) o ≡ Ok r
    → (r ≡ o) × IfSome r (IsIn class)
texts_found class error None r h = let p : r ≡ None = cc in (p, rw p tt)
texts_found {E} class error (Some t) r h = by_reading (reading_in class error t) refl h
  where
    by_reading : (s : Result (List ℕ) E) → reading_in class error t ≡ s → some_of s ≡ Ok r → (r ≡ Some t) × IfSome r (IsIn class)
    by_reading (Ok x) e k =
        let is = (exact_in class error).found t x e in
        let p : r ≡ Some t = let same = is.same in cc in
        (p, rw p is.fine)
    by_reading (Err y) e k = cc

pub piece_found : {E F A : Type 0} (of : E → F) (r : Result A E) (x : A) → of_piece of r ≡ Ok x → r ≡ Ok x
piece_found of (Ok y) x h = cc
piece_found of (Err e) x h = cc

pub bind_ok : {E A B : Type 0} (r : Result A E) (g : A → Result B E) (y : B) → (r >>= g) ≡ Ok y → (x : A) × (r ≡ Ok x) × (g x ≡ Ok y)
bind_ok (Ok x) g y h = (x, refl, h)
bind_ok (Err e) g y h = cc

-- a reading either returns something or has a fault
pub none_or : {E A : Type 0} (r : Result A E) → fault_in r ≡ None → (x : A) × (r ≡ Ok x)
none_or (Ok x) h = (x, refl)
none_or (Err e) h = cc
