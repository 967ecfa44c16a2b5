-- What is left in a buffer of a reference with components changed.
use Rattle.std.proofs.Common.{◌≡◌, ℕ, true, List, length, Ok, Err, ap, subst, ◌∙◌, arith}
use Rattle.std.specs.Prelude.{Result}
use Rattle.std.proofs.lemmas.Bool.{and_parts}
use Rattle.uriparse_text.proofs.lemmas.tokens.StartLemmas.{too_short}
use Rattle.uriparse_reference.specs.Change.{WritesChanged}
use Rattle.uriparse_reference.specs.View.{Viewed}
use Rattle.uriparse_reference.specs.declared.uri_reference.change.ChangeError.{ChangeError}
use Rattle.uriparse_reference.specs.declared.uri_reference.change.ChangeError.TheVariants as errors
use Rattle.uriparse_ffi.specs.Changes.{IsChanged, are_wishes, changed_code, changed_needed, is_wish}
use Rattle.uriparse_ffi.specs.declared.changes.UriChanges.{UriChanges}

-- what is written, or not, as a call reports it
pub change_answered : (made : Result Viewed ChangeError) (written : Result ℕ ChangeError) (old new : List ℕ) (needed code : ℕ)
    → WritesChanged made written old new → length new ≡ length old → code ≡ changed_code written → needed ≡ changed_needed written
    → IsChanged made old new needed code
change_answered (Ok v) (Ok n) old new needed code (len, text) room is at = record {
  fits = λ _. (is, at ∙ len, text);
  too_long = λ long. absurd (too_short v.text old new text room long);
}
change_answered (Ok v) (Err e) old new needed code (why, (short, kept)) room is at = record {
  fits = λ le. absurd (omega (arith, short, le));
  too_long = λ _. (is ∙ ap (λ x. changed_code (Err x)) why, at ∙ ap (λ x. changed_needed (Err x)) why, kept);
}
change_answered (Err errors.MissingHost) r old new needed code (e, kept) room is at =
    record { reason = is ∙ ap changed_code e; kept = kept; size = at ∙ ap changed_needed e }
change_answered (Err (errors.Reference x)) r old new needed code (e, kept) room is at =
    record { reason = is ∙ ap changed_code e; kept = kept; size = at ∙ ap changed_needed e }
change_answered (Err (errors.TooSmall n)) r old new needed code h room is at = tt
change_answered (Err errors.OutOfMemory) r old new needed code h room is at = tt

-- the same for what was made
pub changed_as : (made right : Result Viewed ChangeError) (old new : List ℕ) (needed code : ℕ) → IsChanged made old new needed code → made ≡ right
    → IsChanged right old new needed code
changed_as made right old new needed code h e = subst (λ r. IsChanged r old new needed code) e h

-- what is asked of each component, from the third on
pub each_wish : (values : List ℕ) (c : UriChanges) → are_wishes values c ≡ true
    → (is_wish values c.password ≡ true) × (is_wish values c.host ≡ true) × (is_wish values c.port ≡ true) × (is_wish values c.path ≡ true)
    × (is_wish values c.query ≡ true) × (is_wish values c.fragment ≡ true)
each_wish values c h =
    let a = (and_parts (is_wish values c.scheme) _ h).1 in
    let b = (and_parts (is_wish values c.username) _ a).1 in
    let d = and_parts (is_wish values c.password) _ b in
    let e = and_parts (is_wish values c.host) _ d.1 in
    let f = and_parts (is_wish values c.port) _ e.1 in
    let g = and_parts (is_wish values c.path) _ f.1 in
    let i = and_parts (is_wish values c.query) (is_wish values c.fragment) g.1 in
    (d.0, e.0, f.0, g.0, i.0, i.1)
