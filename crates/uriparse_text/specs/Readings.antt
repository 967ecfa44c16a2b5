-- What a reader of one text returns.
use Rattle.std.specs.Prelude.{◌≡◌, ◌⊎◌, ℕ, List, Option, Some, None, Result, Ok, Err, MatchResult}
use Rattle.std.specs.Option.{option_map}
use Rattle.uriparse_text.specs.declared.internal.class.Class.{Class}
use Rattle.uriparse_text.specs.Faults.{fault}

-- the value, or the error if there is one
abbrev pub unless_fault : {E A : Type 0} → Option E → A → Result A E
unless_fault None x = Ok x
unless_fault (Some e) x = Err e

-- the text itself where it is in the class, and else the error of its leftmost fault
abbrev pub reading_in : {E : Type 0} → Class → (ℕ → E) → List ℕ → Result (List ℕ) E
reading_in class error_of text = unless_fault (option_map error_of (fault class text)) text

-- this result, or this error in its place
abbrev pub IsUnless : {E A : Type 0} → E → Result A E → Result A E → Type 0
IsUnless error answer right = (answer ≡ right) ⊎ (answer ≡ Err error)

-- ---- what a call that changes a value returns

-- it is Ok and the value is the new one, or it is the error and the value is the old one
abbrev pub Settles : {A E : Type 0} → A → A → Result (Unit {0}) E → Result A E → Type 0
Settles old new result right = MatchResult result (λ _. right ≡ Ok new) (λ e. (right ≡ Err e) × (new ≡ old))

-- the same, or it is this error in its place and the value is the old one
abbrev pub SettlesUnless : {A E : Type 0} → E → A → A → Result (Unit {0}) E → Result A E → Type 0
SettlesUnless error old new result right = Settles old new result right ⊎ ((result ≡ Err error) × (new ≡ old))

-- ---- readings one after another

-- the second reading is made where the first has no fault
infixl 10 ◌>>=◌
abbrev pub ◌>>=◌ : {E A B : Type 0} → Result A E → (A → Result B E) → Result B E
(Ok x) >>= f = f x
(Err e) >>= f = Err e

-- the same reading, its fault mapped to a component's
abbrev pub of_piece : {E F A : Type 0} → (E → F) → Result A E → Result A F
of_piece of (Ok x) = Ok x
of_piece of (Err e) = Err (of e)

-- the fault that a reading gave, if it gave one
abbrev pub fault_in : {E A : Type 0} → Result A E → Option E
fault_in (Ok x) = None
fault_in (Err e) = Some e

-- the result of reading an optional component
abbrev pub some_of : {E A : Type 0} → Result A E → Result (Option A) E
some_of (Ok x) = Ok (Some x)
some_of (Err e) = Err e

abbrev pub if_present : {E A : Type 0} → (List ℕ → Result A E) → Option (List ℕ) → Result (Option A) E
if_present read None = Ok None
if_present read (Some t) = some_of (read t)

-- the piece and the value are both absent, or the piece stands for the value
abbrev pub IfPresent : {A : Type 0} → (List ℕ → A → Type 0) → Option (List ℕ) → Option A → Type 0
IfPresent Spells None None = Unit {0}
IfPresent Spells None (Some x) = ⊥
IfPresent Spells (Some t) None = ⊥
IfPresent Spells (Some t) (Some x) = Spells t x
