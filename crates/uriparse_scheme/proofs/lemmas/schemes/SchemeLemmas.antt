-- Reading a scheme, and why a text is not one.
use Rattle.std.proofs.Common.{
  ◌≡◌,
  ◌↔◌,
  ℕ,
  Bool,
  true,
  false,
  not,
  cond,
  ◌&&◌,
  List,
  [],
  ◌∷◌,
  ◌++◌,
  Option,
  Some,
  None,
  Result,
  Ok,
  Err,
  refl,
  sym,
  ap,
  ◌∙◌,
  subst,
}
use Rattle.std.specs.Prelude.{is_some}
use Rattle.std.specs.Char.{is_ascii_alphabetic}
use Rattle.std.specs.List.{list_all}
use Rattle.std.specs.Str.{str_to_ascii_lowercase}
use Rattle.uriparse_text.specs.Readings.{unless_fault}
use Rattle.uriparse_scheme.specs.declared.scheme.registered.RegisteredScheme.{RegisteredScheme}
use Rattle.uriparse_scheme.specs.declared.scheme.Scheme.{Scheme}
use Rattle.uriparse_scheme.specs.declared.scheme.Scheme.TheVariants.{Registered, Unregistered}
use Rattle.uriparse_scheme.specs.declared.scheme.error.SchemeError.{SchemeError}
use Rattle.uriparse_scheme.specs.declared.scheme.error.SchemeError.TheVariants.{Empty, StartsWithNonAlphabetic, InvalidCharacter}
use Rattle.uriparse_scheme.specs.declared.scheme.error.UnregisteredSchemeError.{UnregisteredSchemeError}
use Rattle.uriparse_scheme.specs.Unregistered as unregistered
use Rattle.uriparse_scheme.specs.Registered.{registered_named, name_of}
use Rattle.uriparse_scheme.specs.Grammar.{is_scheme_byte, is_scheme, IsUnregistered}
use Rattle.uriparse_scheme.specs.Scheme.{Valid, registered_or, named, text, canonical_text, Spells, fault, reading, BeginsWithNoLetter, HasStrayByte}
use Rattle.uriparse_text.specs.Canonical.{canonical_lowered}
use Rattle.uriparse_scheme.proofs.lemmas.schemes.GrammarLemmas.{canonical_low_of_scheme}
use Rattle.uriparse_scheme.proofs.lemmas.table.TableLemmas.{name_is_scheme, named-name, named_iff, canonical_name}

-- ---- no fault

no_faults : (v w : Bool) → (cond {A = Option SchemeError} (not v) (Some StartsWithNonAlphabetic) (cond (not w)
    (Some InvalidCharacter) None) ≡ None) ↔ ((v && w) ≡ true)
no_faults true true = (λ _. refl, λ _. refl)
no_faults true false = (λ h. cc, λ h. cc)
no_faults false w = (λ h. cc, λ h. cc)

-- a text has no fault if and only if it is a scheme
pub no_fault : (t : List ℕ) → (fault t ≡ None) ↔ (is_scheme t ≡ true)
unfolding fault
no_fault [] = (λ h. cc, λ h. cc)
no_fault (b ∷ rest) = no_faults (is_ascii_alphabetic b) (list_all is_scheme_byte rest)

-- ---- reading

valid_or : (t : List ℕ) (o : Option RegisteredScheme) → registered_named (str_to_ascii_lowercase t) ≡ o → is_scheme t ≡ true → Valid (registered_or t o)
valid_or t (Some s) e h = tt
valid_or t None e h = record { scheme = h; nameless = e }

-- what a text spells is valid
pub valid_spelled : (t : List ℕ) (s : Scheme) → Spells t s → Valid s
valid_spelled t s spells = subst Valid (sym spells.value) (valid_or t (registered_named (str_to_ascii_lowercase t)) refl spells.grammar)

canonical_or : (t : List ℕ) (o : Option RegisteredScheme) → registered_named (str_to_ascii_lowercase t) ≡ o → is_scheme t ≡ true →
    canonical_text (registered_or t o) ≡ canonical_lowered t
canonical_or t (Some s) e h = canonical_name s ∙ sym ((named_iff t s).0 e) ∙ sym (canonical_low_of_scheme t h)
canonical_or t None e h = refl

-- a scheme has the canonical spelling of each text that spells it
pub canonical_spelled : (t : List ℕ) (s : Scheme) → Spells t s → canonical_text s ≡ canonical_lowered t
canonical_spelled t s spells = ap canonical_text spells.value ∙ canonical_or t (registered_named (str_to_ascii_lowercase t)) refl spells.grammar

-- a valid scheme's text spells it
pub spells_back : (s : Scheme) → Valid s → Spells (text s) s
spells_back (Registered s) valid = record { grammar = name_is_scheme s; value = ap (registered_or (name_of s)) (sym (named-name s)) }
spells_back (Unregistered t) valid = record { grammar = valid.scheme; value = ap (registered_or t) (sym valid.nameless) }

pub is_scheme-text : (s : Scheme) → Valid s → is_scheme (text s) ≡ true
is_scheme-text s valid = (spells_back s valid).grammar

pub one_scheme : (t : List ℕ) (r s : Scheme) → Spells t r → Spells t s → r ≡ s
one_scheme t r s first second = first.value ∙ sym second.value

read : (t : List ℕ) (s : Scheme) (f : Option SchemeError) → fault t ≡ f → unless_fault f (named t) ≡ Ok s → Spells t s
read t s None none e = record { grammar = (no_fault t).0 none; value = let same : named t ≡ s = cc in sym same }
read t s (Some error) some e = cc

-- a reading is what the text spells
pub reads : (t : List ℕ) (s : Scheme) → (reading t ≡ Ok s) ↔ Spells t s
reads t s = (
  λ h. read t s (fault t) refl h,
  λ spells. ap (λ f. unless_fault f (named t)) ((no_fault t).1 spells.grammar) ∙ ap Ok (sym spells.value),
)

-- ---- unregistered schemes

refused : (v w : Bool) (t : List ℕ) → (cond {A = Result (List ℕ) UnregisteredSchemeError} (v && w) (Ok t) (Err (record {})) ≡ Ok t) ↔ ((v ≡ true) × (w ≡ true))
refused true true t = (λ _. (refl, refl), λ _. refl)
refused true false t = (λ h. cc, λ h. cc)
refused false w t = (λ h. cc, λ h. cc)

none_test : (o : Option RegisteredScheme) → (not (is_some o) ≡ true) ↔ (o ≡ None)
none_test None = (λ _. refl, λ _. refl)
none_test (Some s) = (λ h. cc, λ h. cc)

pub unregistered_reads : (t : List ℕ) → (unregistered.reading t ≡ Ok t) ↔ IsUnregistered t
unregistered_reads t =
    let tests = refused (is_scheme t) (not (is_some (registered_named (str_to_ascii_lowercase t)))) t in
    let none = none_test (registered_named (str_to_ascii_lowercase t)) in
    (λ h. record { scheme = (tests.0 h).0; nameless = none.0 (tests.0 h).1 }, λ is. tests.1 (is.scheme, none.1 is.nameless))

-- a scheme that passes the test
pub unregistered_tested : (t : List ℕ) → is_scheme t ≡ true → is_some (registered_named (str_to_ascii_lowercase t)) ≡ false → IsUnregistered t
unregistered_tested t h lacks = record { scheme = h; nameless = (none_test (registered_named (str_to_ascii_lowercase t))).0 (ap not lacks) }

-- ---- each fault

pub fault_empty : (t : List ℕ) → (fault t ≡ Some Empty) ↔ (t ≡ [])
unfolding fault
fault_empty [] = (λ _. refl, λ _. refl)
fault_empty (b ∷ rest) = (λ h. absurd (never (is_ascii_alphabetic b) (list_all is_scheme_byte rest) h), λ h. cc)
  where
    never : (v w : Bool) → cond {A = Option SchemeError} (not v) (Some StartsWithNonAlphabetic) (cond (not w) (Some InvalidCharacter) None) ≡ Some Empty → ⊥
    never true true h = cc
    never true false h = cc
    never false w h = cc

no_letter : (b : ℕ) (rest : List ℕ) → is_ascii_alphabetic b ≡ false → fault (b ∷ rest) ≡ Some StartsWithNonAlphabetic
unfolding fault
no_letter b rest h = rw h refl

first_is : (v w : Bool) → cond {A = Option SchemeError} (not v) (Some StartsWithNonAlphabetic) (cond (not w)
    (Some InvalidCharacter) None) ≡ Some StartsWithNonAlphabetic → v ≡ false
first_is true true h = cc
first_is true false h = cc
first_is false w h = refl

begins : (t : List ℕ) → fault t ≡ Some StartsWithNonAlphabetic → BeginsWithNoLetter t
unfolding fault
begins [] h = cc
begins (b ∷ rest) h = record { first = b; rest = rest; whole = refl; here = first_is (is_ascii_alphabetic b) (list_all is_scheme_byte rest) h }

pub fault_first : (t : List ℕ) → (fault t ≡ Some StartsWithNonAlphabetic) ↔ BeginsWithNoLetter t
fault_first t = (begins t, λ r. ap fault r.whole ∙ no_letter r.first r.rest r.here)

-- if not all bytes are scheme bytes, there is one that is not
record StraysIn (t : List ℕ) : Type 0 where
  before : List ℕ
  stray : ℕ
  after : List ℕ
  whole : t ≡ before ++ stray ∷ after
  here : is_scheme_byte stray ≡ false

strays : (t : List ℕ) → list_all is_scheme_byte t ≡ false → StraysIn t
strays [] h = cc
strays (b ∷ t) h = at_byte (is_scheme_byte b) refl h (strays t)
  where
    at_byte : (v : Bool) → is_scheme_byte b ≡ v → (v && list_all is_scheme_byte t) ≡ false → (list_all is_scheme_byte t ≡ false → StraysIn t) →
        StraysIn (b ∷ t)
    at_byte true e k further = let r = further k in record {
      before = b ∷ r.before;
      stray = r.stray;
      after = r.after;
      whole =
          ap (λ u. b ∷ u) r.whole;
      here = r.here;
    }
    at_byte false e k further = record { before = []; stray = b; after = t; whole = refl; here = e }

not_each : (before : List ℕ) (stray : ℕ) (after : List ℕ) → is_scheme_byte stray ≡ false → list_all is_scheme_byte (before ++ stray ∷ after) ≡ false
not_each [] stray after h = ap (λ v. v && list_all is_scheme_byte after) h
not_each (b ∷ before) stray after h = at_byte (is_scheme_byte b) (not_each before stray after h)
  where
    at_byte : (v : Bool) → list_all is_scheme_byte (before ++ stray ∷ after) ≡ false → (v && list_all is_scheme_byte (before ++ stray ∷ after)) ≡ false
    at_byte true further = further
    at_byte false further = refl

later : (b : ℕ) (rest : List ℕ) → is_ascii_alphabetic b ≡ true → list_all is_scheme_byte rest ≡ false → fault (b ∷ rest) ≡ Some InvalidCharacter
unfolding fault
later b rest letter stray = rw (letter, stray) refl

later_is : (v w : Bool) → cond {A = Option SchemeError} (not v) (Some StartsWithNonAlphabetic) (cond (not w)
    (Some InvalidCharacter) None) ≡ Some InvalidCharacter → (v ≡ true) × (w ≡ false)
later_is true true h = cc
later_is true false h = (refl, refl)
later_is false w h = cc

has : (t : List ℕ) → fault t ≡ Some InvalidCharacter → HasStrayByte t
unfolding fault
has [] h = cc
has (b ∷ rest) h =
    let both = later_is (is_ascii_alphabetic b) (list_all is_scheme_byte rest) h in
    let r = strays rest both.1 in
    record { first = b; before = r.before; stray = r.stray; after = r.after; whole = ap (λ u. b ∷ u) r.whole; letter = both.0; here = r.here }

pub fault_later : (t : List ℕ) → (fault t ≡ Some InvalidCharacter) ↔ HasStrayByte t
fault_later t = (
  has t,
  λ r. ap fault r.whole ∙ later r.first (r.before ++ r.stray ∷ r.after) r.letter (not_each r.before r.stray r.after r.here),
)
