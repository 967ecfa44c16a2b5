-- Escapes that servers take for different bytes.
use Rattle.std.proofs.Common.{◌≡◌, ℕ, Bool, true, false, cond, List, [], ◌∷◌, ◌++◌, length, length-append, ◌<◌, ◌≤◌, arith, refl, sym, ap, ◌∙◌}
use Rattle.std.specs.Prelude.{◌==◌, ◌&&◌, ◌||◌, bytes_eq}
use Rattle.std.specs.List.{list_any}
use Rattle.std.proofs.lemmas.Bool.{false≢true}
use Rattle.std.proofs.Math.Bool.{and-false}
use Rattle.uriparse_text.specs.declared.internal.token.Token.TheVariants.{Byte, Escape}
use Rattle.uriparse_text.specs.declared.internal.token.Token.{Token}
use Rattle.uriparse_text.specs.Ambiguous.{are_dots, begins_with_dot, begins_with_end, has_ambiguous_escape, is_ambiguous_token, is_name_end}
use Rattle.uriparse_text.specs.Bytes.{dot, percent}
use Rattle.uriparse_text.specs.Cuts.{from_first, up_to}
use Rattle.uriparse_text.specs.Tokens.{spell, tokens}
use Rattle.uriparse_text.proofs.lemmas.canonical.RunLemmas.{no_escape}
use Rattle.uriparse_text.proofs.lemmas.readings.CutLemmas.{cut-whole}
use Rattle.uriparse_text.proofs.lemmas.tokens.TokenLemmas.{tokens-byte, tokens-nil}

-- bytes before the first `%` are no escapes
pub ambiguous_after : (t : List ℕ) → has_ambiguous_escape (from_first (λ b. b == percent) t) ≡ has_ambiguous_escape t
ambiguous_after [] = refl
ambiguous_after (b ∷ t) = by_sign (b == percent) refl (ambiguous_after t)
  where
    by_sign : (v : Bool) → (b == percent) ≡ v → has_ambiguous_escape (from_first (λ b. b == percent) t) ≡ has_ambiguous_escape t
        → has_ambiguous_escape (cond v (b ∷ t) (from_first (λ b. b == percent) t)) ≡ has_ambiguous_escape (b ∷ t)
    by_sign true e h = refl
    by_sign false e h = h ∙ sym (ap (list_any is_ambiguous_token) (tokens-byte b t (no_escape b t e)))

-- ---- the walk over escapes

abbrev pub escapes_after : List ℕ → List ℕ
escapes_after t = from_first (λ b. b == percent) t

no_longer : (t : List ℕ) → length (escapes_after t) ≤ length t
no_longer t =
    let whole = ap length (cut-whole (λ b. b == percent) t) in
    let sum = length-append (up_to (λ b. b == percent) t) (escapes_after t) in
    omega (arith, whole, sum)

some_token : (t : Token) → 0 < length (spell t)
some_token (Byte b) = omega arith
some_token (Escape high low) = omega arith

pub escapes_fewer : (t after : List ℕ) (x : Token) → t ≡ spell x ++ after → length (escapes_after after) < length t
escapes_fewer t after x e =
    let less = no_longer after in
    let whole = ap length e in
    let sum = length-append (spell x) after in
    let some = some_token x in
    omega (arith, less, whole, sum, some)

pub ambiguous_token : (t after : List ℕ) (x : Token) (v : Bool) → tokens t ≡ x ∷ tokens after → v ≡ is_ambiguous_token x
    → has_ambiguous_escape t ≡ (v || has_ambiguous_escape after)
ambiguous_token t after x v cut is = ap (list_any is_ambiguous_token) cut ∙ ap (λ w. w || has_ambiguous_escape after) (sym is)

pub none_ambiguous : (t : List ℕ) → t ≡ [] → has_ambiguous_escape t ≡ false
none_ambiguous t e = ap has_ambiguous_escape e ∙ ap (list_any is_ambiguous_token) tokens-nil

-- ---- dots before an end, in the bytes that a segment stands for

abbrev pub dots_of : List ℕ → Bool
dots_of d = list_any is_name_end d && are_dots (up_to is_name_end d)

-- bytes that begin otherwise than with a dot are no dots
other_dots : (b : ℕ) (u : List ℕ) → (b == dot) ≡ false → are_dots (b ∷ u) ≡ false
other_dots b u e = rw (e) refl

-- what follows a dot isn't empty, and begins otherwise
more_dots : (b : ℕ) (u : List ℕ) → (b == dot) ≡ false → are_dots (dot ∷ b ∷ u) ≡ false
more_dots b u e = rw (e) refl

pub no_dots : (d : List ℕ) → begins_with_dot d ≡ false → dots_of d ≡ false
no_dots [] h = refl
no_dots (b ∷ t) h = by_end (is_name_end b) refl
  where
    by_end : (v : Bool) → is_name_end b ≡ v → (list_any is_name_end (b ∷ t) && are_dots (cond v [] (b ∷ up_to is_name_end t))) ≡ false
    by_end true e = and-false (list_any is_name_end (b ∷ t))
    by_end false e = ap (λ w. list_any is_name_end (b ∷ t) && w) (other_dots b (up_to is_name_end t) h) ∙ and-false (list_any is_name_end (b ∷ t))

pub one_dot : (d rest : List ℕ) → d ≡ dot ∷ rest → begins_with_end rest ≡ true → dots_of d ≡ true
one_dot d [] e h = absurd (false≢true h)
one_dot d (b ∷ t) e h = ap dots_of e ∙ ap (λ v. (v || list_any is_name_end t) && are_dots (dot ∷ cond v [] (b ∷ up_to is_name_end t))) h

pub one_dot_alone : (d rest : List ℕ) → d ≡ dot ∷ rest → begins_with_end rest ≡ false → begins_with_dot rest ≡ false → dots_of d ≡ false
one_dot_alone d [] e h k = ap dots_of e
one_dot_alone d (b ∷ t) e h k =
    ap dots_of e
    ∙ ap (λ v. (v || list_any is_name_end t) && are_dots (dot ∷ cond v [] (b ∷ up_to is_name_end t))) h
    ∙ ap (λ w. list_any is_name_end t && w) (more_dots b (up_to is_name_end t) k)
    ∙ and-false (list_any is_name_end t)

pub two_dots : (d more rest : List ℕ) → d ≡ dot ∷ more → more ≡ dot ∷ rest → dots_of d ≡ begins_with_end rest
two_dots d more [] e f = ap dots_of (e ∙ ap (λ u. dot ∷ u) f)
two_dots d more (b ∷ t) e f = ap dots_of (e ∙ ap (λ u. dot ∷ u) f) ∙ by_end (is_name_end b)
  where
    by_end : (v : Bool) → ((v || list_any is_name_end t) && are_dots (dot ∷ dot ∷ cond v [] (b ∷ up_to is_name_end t))) ≡ v
    by_end true = refl
    by_end false = and-false (list_any is_name_end t)

pub no_name : (d : List ℕ) → d ≡ [] → bytes_eq (up_to is_name_end d) [] ≡ true
no_name d e = ap (λ u. bytes_eq (up_to is_name_end u) []) e

pub first_of_name : (d rest : List ℕ) (b : ℕ) → d ≡ b ∷ rest → bytes_eq (up_to is_name_end d) [] ≡ is_name_end b
first_of_name d rest b e = ap (λ u. bytes_eq (up_to is_name_end u) []) e ∙ by_end (is_name_end b)
  where
    by_end : (v : Bool) → bytes_eq (cond v [] (b ∷ up_to is_name_end rest)) [] ≡ v
    by_end true = refl
    by_end false = refl
