-- The string of a reference of one kind with some components changed: RFC 3986, sections 3 and 5.3.
use Rattle.std.specs.Prelude.{◌≡◌, ℕ, Bool, true, if◌then◌else◌, List, Some, None, is_some, Result, Ok, Err, MatchResult}
use Rattle.std.specs.Bool.{beq}
use Rattle.uriparse_text.specs.Readings.{◌>>=◌, of_piece}
use Rattle.uriparse_text.specs.Starts.{WritesOr}
use Rattle.uriparse_reference.specs.Wanted.{Wanted, Wish}
use Rattle.uriparse_reference.specs.View.{Viewed}
use Rattle.uriparse_reference.specs.Change as changes
use Rattle.uriparse_reference.specs.declared.uri_reference.change.ChangeError.TheVariants.{TooSmall, OutOfMemory}
use Rattle.uriparse.specs.declared.change_of.KindChangeError.{KindChangeError}
use Rattle.uriparse.specs.declared.change_of.KindChangeError.TheVariants as errors

-- A scheme stays as it is, or is set where the kind has one, or removed where it has none.
abbrev pub keeps_kind : Bool → Wish → Bool
keeps_kind has_scheme None = true
keeps_kind has_scheme (Some new) = beq (is_some new) has_scheme

abbrev pub if_of_kind : Bool → Wanted → Result (Unit {0}) KindChangeError
if_of_kind has_scheme c = if keeps_kind has_scheme c.scheme then Ok tt else Err errors.OtherKind

-- the string with its components changed, and what it spells; or that this is of the other kind, or else the first fault
abbrev pub changing : Bool → Wanted → List ℕ → Result Viewed KindChangeError
changing has_scheme c t = if_of_kind has_scheme c >>= (λ _. of_piece errors.Change (changes.changing c t))

-- The buffer begins with the string that was made, or is too small for it; on an error it is unchanged.
abbrev pub WritesChanged : Result Viewed KindChangeError → Result ℕ KindChangeError → List ℕ → List ℕ → Type 0
WritesChanged made result old new =
    MatchResult made (λ v. WritesOr (λ n. errors.Change (TooSmall n)) v.text result old new) (λ e. (result ≡ Err e) × (new ≡ old))

-- The result is made of the string, unless memory runs out; or it is the error.
abbrev pub ChangesTo : {A : Type 0} → (A → Viewed → Type 0) → Result Viewed KindChangeError → Result A KindChangeError → Type 0
ChangesTo Is made result = MatchResult made (λ v. MatchResult result (λ x. Is x v) (λ e. e ≡ errors.Change OutOfMemory)) (λ e. result ≡ Err e)

-- The same, for a reference that is changed in its place and stays as it was on an error.
abbrev pub ChangesInPlace : Result Viewed KindChangeError → Result (Unit {0}) KindChangeError → Viewed → Viewed → Type 0
ChangesInPlace made result old new =
    MatchResult made (λ v. MatchResult result (λ _. new ≡ v) (λ e. (e ≡ errors.Change OutOfMemory) × (new ≡ old))) (λ e. (result ≡ Err e) × (new ≡ old))
