-- Texts without `%`: their tokens are their bytes.
use Rattle.std.proofs.Common.{◌≡◌, ◌↔◌, ℕ, Bool, true, List, [], ◌∷◌, map, refl, sym, ap, ◌∙◌}
use Rattle.std.specs.Prelude.{IsTrue, bytes_eq}
use Rattle.std.specs.Char.{to_ascii_lowercase}
use Rattle.std.specs.List.{flat_map, list_all}
use Rattle.std.specs.Str.{str_to_ascii_lowercase}
use Rattle.std.proofs.lemmas.Bool.{and_from, and_parts}
use Rattle.std.proofs.lemmas.Bool.Decides.{same_from_decides}
use Rattle.std.proofs.lemmas.Slice.Eq.{bytes_eq-Decides}
use Rattle.uriparse_text.specs.declared.internal.token.Token.TheVariants.{Byte}
use Rattle.uriparse_text.specs.declared.internal.token.Case.TheVariants.{Lowered}
use Rattle.uriparse_text.specs.Bytes.{percent}
use Rattle.uriparse_text.specs.Tokens.{tokens, spell, is_token, is_well_formed}
use Rattle.uriparse_text.specs.Canonical.{canonical_token, canonical_lowered, canonical_in}
use Rattle.uriparse_text.specs.Cuts.{lacks}
use Rattle.uriparse_text.proofs.lemmas.tokens.TokenLemmas.{tokens-nil, tokens-spell}

single : (t : List ℕ) → lacks percent t ≡ true → tokens t ≡ map Byte t
single [] h = tokens-nil
single (b ∷ t) h =
    let both = and_parts _ _ h in
    tokens-spell (Byte b) t both.0 ∙ ap (λ ts. Byte b ∷ ts) (single t both.1)

single_formed : (t : List ℕ) → lacks percent t ≡ true → list_all is_token (map Byte t) ≡ true
single_formed [] h = refl
single_formed (b ∷ t) h = let both = and_parts _ _ h in and_from _ _ both.0 (single_formed t both.1)

pub well_formed-plain : (t : List ℕ) → lacks percent t ≡ true → is_well_formed t ≡ true
well_formed-plain t h = ap (list_all is_token) (single t h) ∙ single_formed t h

lowered : (t : List ℕ) → flat_map spell (map (canonical_token Lowered) (map Byte t)) ≡ str_to_ascii_lowercase t
lowered [] = refl
lowered (b ∷ t) = ap (λ u. to_ascii_lowercase b ∷ u) (lowered t)

-- the canonical spelling in lower case is the text in lower case
pub canonical_lowered-plain : (t : List ℕ) → lacks percent t ≡ true → canonical_lowered t ≡ str_to_ascii_lowercase t
unfolding canonical_in
canonical_lowered-plain t h = ap (λ ts. flat_map spell (map (canonical_token Lowered) ts)) (single t h) ∙ lowered t

-- a test of two such texts in lower case is one of their canonical spellings
pub same_plain : (left right : List ℕ) (r : Bool) → lacks percent left ≡ true → lacks percent right ≡ true →
    (IsTrue r ↔ (str_to_ascii_lowercase left ≡ str_to_ascii_lowercase right)) → r ≡ bytes_eq (canonical_lowered left) (canonical_lowered right)
same_plain left right r h k iff =
    let l = canonical_lowered-plain left h in
    let m = canonical_lowered-plain right k in
    same_from_decides r (bytes_eq (canonical_lowered left) (canonical_lowered right)) (λ e. l ∙ iff.0 e ∙ sym m, λ e. iff.1 (sym l ∙ e ∙ m))
    (bytes_eq-Decides (canonical_lowered left) (canonical_lowered right))
