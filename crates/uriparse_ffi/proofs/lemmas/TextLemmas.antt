-- What is returned where a text spells a reference, and what is left in a buffer.
use Rattle.std.proofs.Common.{◌≡◌, ℕ, List, true, false, length, Option, Some, None, Ok, Err, refl, sym, ap, subst, ◌∙◌, arith}
use Rattle.std.specs.Prelude.{Result, MatchOption, is_some}
use Rattle.uriparse_reference.specs.declared.uri_reference.error.BufferError.{BufferError}
use Rattle.uriparse_reference.specs.declared.uri_reference.error.BufferError.TheVariants as buffers
use Rattle.uriparse_text.specs.declared.internal.forward_buffer.TooSmall.{TooSmall}
use Rattle.uriparse_text.specs.Starts.{Writes as WritesText}
use Rattle.uriparse_text.proofs.lemmas.tokens.StartLemmas.{too_short}
use Rattle.uriparse_reference.specs.Into.{Writes}
use Rattle.uriparse_reference.specs.Reference.{Parts, Spells}
use Rattle.uriparse_reference.proofs.lemmas.reading.ReadingLemmas.{one_reading}
use Rattle.uriparse_ffi.specs.Code.{accepted, no_room, too_many_segments}
use Rattle.uriparse_ffi.specs.Put.{IsPut, IsRefused, needed_for, written_code}

-- a base that is read has a scheme
pub no_relative : (t : List ℕ) (u p : Parts) → Spells t u → is_some u.scheme ≡ true → Spells t p → is_some p.scheme ≡ false → ⊥
no_relative t u p s kind s' other =
    let one : u ≡ p = one_reading t u p s s' in
    let e : true ≡ false = sym kind ∙ (ap (λ (q : Parts). is_some q.scheme) one ∙ other) in
    absurd (cc)

pub no_error : {A E : Type 0} (x : A) (e : E) → ◌≡◌ {A = Result A E} (Ok x) (Err e) → ⊥
no_error x e h = absurd (cc)

pub no_ok : {A E : Type 0} (e : E) (x : A) → ◌≡◌ {A = Result A E} (Err e) (Ok x) → ⊥
no_ok e x h = absurd (cc)

pub ok_is : {A E : Type 0} (x y : A) → ◌≡◌ {A = Result A E} (Ok x) (Ok y) → x ≡ y
ok_is x y h = cc

pub err_is : {A E : Type 0} (x y : E) → ◌≡◌ {A = Result A E} (Err x) (Err y) → x ≡ y
err_is x y h = cc

pub some_is : {X : Type 0} (x y : X) → Some x ≡ Some y → x ≡ y
some_is x y h = cc

pub no_some : {X : Type 0} (x : X) → Some x ≡ None → ⊥
no_some x h = absurd (cc)

-- what is written, or not, as a call reports it
pub put_written : (t old new : List ℕ) (r : Result ℕ BufferError) (needed code : ℕ) → Writes t r old new → length new ≡ length old
    → code ≡ written_code r → needed ≡ needed_for r → IsPut t old new needed code
put_written t old new (Ok n) needed code (len, text) room is at = record {
  fits = λ _. (is, at ∙ len, text);
  too_long = λ long. absurd (too_short t old new text room long);
}
put_written t old new (Err e) needed code (why, (short, kept)) room is at = record {
  fits = λ le. absurd (omega (arith, short, le));
  too_long = λ _. (is ∙ ap (λ x. written_code (Err x)) why, at ∙ ap (λ x. needed_for (Err x)) why, kept);
}

-- the same of a text that has no other fault
pub put_fits : (t old new : List ℕ) (n : ℕ) → length new ≡ length old → WritesText t (Ok n) old new → IsPut t old new n accepted
put_fits t old new n room (len, text) = record { fits = λ _. (refl, len, text); too_long = λ long. absurd (too_short t old new text room long) }

pub put_short : (t old new : List ℕ) (e : TooSmall) → WritesText t (Err e) old new → IsPut t old new e.needed no_room
put_short t old new e (why, (short, kept)) = record {
  fits = λ le. absurd (omega (arith, short, le));
  too_long = λ _. (refl, ap (λ (x : TooSmall). x.needed) why, kept);
}

-- what can't be written since there is no target
pub put_refused : (old new : List ℕ) (r : Result ℕ BufferError) (needed code : ℕ) → (r ≡ Err buffers.TooManySegments) × (new ≡ old)
    → code ≡ written_code r → needed ≡ needed_for r → IsRefused too_many_segments old new needed code
put_refused old new r needed code (e, kept) is at = record { reason = is ∙ ap written_code e; kept = kept; size = at ∙ ap needed_for e }

-- ---- what is known of an option, once the option is

pub some_of : {X : Type 0} (o : Option X) (x : X) (N : Type 0) (S : X → Type 0) → MatchOption o N S → o ≡ Some x → S x
some_of o x N S h e = subst (λ p. MatchOption p N S) e h

pub none_of : {X : Type 0} (o : Option X) (N : Type 0) (S : X → Type 0) → MatchOption o N S → o ≡ None → N
none_of o N S h e = subst (λ p. MatchOption p N S) e h
