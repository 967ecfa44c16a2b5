-- What the canonical spelling says about a segment, and about dot segments.
use Rattle.std.proofs.Common.{◌≡◌, ℕ, ◌<◌, Bool, true, false, not, ◌&&◌, ◌||◌, List, [], ◌∷◌, ◌++◌, length, map, flat_map, refl, sym, ap, ◌∙◌, arith}
use Rattle.std.specs.Prelude.{◌==◌, bytes_eq}
use Rattle.std.specs.List.{list_all, list_any}
use Rattle.std.proofs.lemmas.Bool.{false≢true, and_parts, and_from, or_parts}
use Rattle.std.proofs.lemmas.List.Folds.{list_all-append}
use Rattle.uriparse_text.specs.declared.internal.token.Token.{Token}
use Rattle.uriparse_text.specs.declared.internal.token.Token.TheVariants.{Byte, Escape}
use Rattle.uriparse_text.specs.declared.internal.class.Class.TheVariants.{Segment}
use Rattle.uriparse_text.specs.declared.internal.token.Case.TheVariants.{Kept}
use Rattle.uriparse_text.specs.Bytes.{dot, slash, colon, percent, is_hex, is_unreserved}
use Rattle.uriparse_text.specs.Tokens.{tokens, spell, has_digits}
use Rattle.uriparse_text.specs.Canonical.{canonical_token, escaped_byte, canonical}
use Rattle.uriparse_text.specs.Cuts.{lacks}
use Rattle.uriparse_text.proofs.lemmas.tokens.TokenLemmas.{spell-tokens, digits-tokens}
use Rattle.uriparse_text.proofs.lemmas.canonical.CanonicalLemmas.{upper_digit, by_escaped, spell-canonical_token, canonical_in-canonical_in}
use Rattle.uriparse_text.proofs.lemmas.classes.ClassLemmas.{well_formed-in_class}
use Rattle.uriparse_text.proofs.lemmas.readings.CutLemmas.{other_byte}
use Rattle.uriparse_text.specs.Segment.{is_segment, is_single_dot, is_double_dot, is_dot_segment}
use Rattle.uriparse_path.specs.Dots.{LacksSlash}
use Rattle.uriparse_path.specs.Relative.{has_colon}
use Rattle.uriparse_text.proofs.lemmas.canonical.DotLemmas.{canonical-dot, double_is, empty_no_dot, single_is, single_of}

pub not_both : (s : List ℕ) → is_double_dot s ≡ true → is_single_dot s ≡ false
not_both s h = by_single (is_single_dot s) refl
  where
    by_single : (v : Bool) → is_single_dot s ≡ v → v ≡ false
    by_single true e = let f = single_is s e in let g = double_is s h in cc
    by_single false e = refl

-- ---- single and double

pub dot_single : is_single_dot (dot ∷ []) ≡ true
dot_single = single_of (dot ∷ []) canonical-dot

pub neither : (s : List ℕ) → is_dot_segment s ≡ false → (is_single_dot s ≡ false) × (is_double_dot s ≡ false)
neither s h = or_parts (is_single_dot s) (is_double_dot s) h

pub no_dot : (s : List ℕ) → is_single_dot s ≡ false → is_double_dot s ≡ false → is_dot_segment s ≡ false
no_dot s h k = rw (h, k) refl

pub single_dot : (s : List ℕ) → is_single_dot s ≡ true → is_dot_segment s ≡ true
single_dot s h = rw h refl

pub double_dot : (s : List ℕ) → is_double_dot s ≡ true → is_dot_segment s ≡ true
double_dot s h = rw (not_both s h, h) refl

pub dot_some : (s : List ℕ) → is_dot_segment s ≡ true → 0 < length s
dot_some [] h = absurd (false≢true (sym empty_no_dot ∙ h))
dot_some (b ∷ s) h = omega arith

-- ---- the canonical spelling of a segment

pub single-canonical : (s : List ℕ) → is_segment s ≡ true → is_single_dot (canonical s) ≡ is_single_dot s
unfolding is_single_dot
single-canonical s h = ap (λ u. bytes_eq u (dot ∷ [])) (canonical_in-canonical_in Kept s (well_formed-in_class Segment s h))

pub double-canonical : (s : List ℕ) → is_segment s ≡ true → is_double_dot (canonical s) ≡ is_double_dot s
unfolding is_double_dot
double-canonical s h = ap (λ u. bytes_eq u (dot ∷ dot ∷ [])) (canonical_in-canonical_in Kept s (well_formed-in_class Segment s h))

pub dot-canonical : (s : List ℕ) → is_segment s ≡ true → is_dot_segment (canonical s) ≡ is_dot_segment s
dot-canonical s h = rw (single-canonical s h, double-canonical s h) refl

empty_tokens : (ts : List Token) → flat_map spell (map (canonical_token Kept) ts) ≡ [] → flat_map spell ts ≡ []
empty_tokens [] h = refl
empty_tokens (Byte b ∷ ts) h = cc
empty_tokens (Escape high low ∷ ts) h =
    let no : flat_map spell (map (canonical_token Kept) (Escape high low ∷ ts)) ≡ []
    → ⊥ = by_escaped Kept high low (λ t. spell t ++ flat_map spell (map (canonical_token Kept) ts) ≡ [] → ⊥) (λ e k. cc) (λ e k. cc) in
    absurd (no h)

-- only the empty text has an empty canonical spelling
pub canonical-empty : (s : List ℕ) → canonical s ≡ [] → s ≡ []
canonical-empty s h = sym (spell-tokens s) ∙ empty_tokens (tokens s) (spell-canonical_token Kept s ∙ h)

-- ---- a byte that is no part of an escape stays where it is

module _ (c : ℕ) (plain : is_unreserved c ≡ false) (digit : is_hex c ≡ false) (sign : (percent == c) ≡ false) where
  lacks_token : (t : Token) → has_digits t ≡ true → lacks c (spell (canonical_token Kept t)) ≡ lacks c (spell t)
  lacks_token (Byte b) h = refl
  lacks_token (Escape high low) h =
      let both = and_parts _ _ h in
      let raw : lacks c (percent ∷ high ∷ low ∷ []) ≡ true =
      and_from _ _ (ap not sign) (and_from _ _ (other_byte is_hex c high digit both.0) (and_from _ _ (other_byte is_hex c low digit both.1) refl)) in
      by_escaped Kept high low (λ t. lacks c (spell t) ≡ true)
      (λ e. and_from _ _ (other_byte is_unreserved c (escaped_byte high low) plain e) refl)
      (λ e. and_from _ _ (ap not sign) (and_from _ _ (other_byte is_hex c _ digit (upper_digit high both.0))
      (and_from _ _ (other_byte is_hex c _ digit (upper_digit low both.1)) refl)))
      ∙ sym raw

  lacks_tokens : (ts : List Token) → list_all has_digits ts ≡ true → lacks c (flat_map spell (map (canonical_token Kept) ts)) ≡ lacks c (flat_map spell ts)
  lacks_tokens [] h = refl
  lacks_tokens (t ∷ ts) h =
      let both = and_parts _ _ h in
      list_all-append (λ b. not (b == c)) (spell (canonical_token Kept t)) (flat_map spell (map (canonical_token Kept) ts))
      ∙ rw (lacks_token t both.0, lacks_tokens ts both.1) (sym (list_all-append (λ b. not (b == c)) (spell t) (flat_map spell ts)))

  pub lacks-canonical : (s : List ℕ) → lacks c (canonical s) ≡ lacks c s
  lacks-canonical s = ap (lacks c) (sym (spell-canonical_token Kept s)) ∙ lacks_tokens (tokens s) (digits-tokens s) ∙ ap (lacks c) (spell-tokens s)

slash_reserved : is_unreserved slash ≡ false
unfolding is_unreserved
slash_reserved = refl

colon_reserved : is_unreserved colon ≡ false
unfolding is_unreserved
colon_reserved = refl

pub lacks_slash-canonical : (s : List ℕ) → lacks slash (canonical s) ≡ lacks slash s
lacks_slash-canonical s = lacks-canonical slash slash_reserved refl refl s

pub has-lacks : (c : ℕ) (s : List ℕ) → list_any (λ b. b == c) s ≡ not (lacks c s)
has-lacks c [] = refl
has-lacks c (b ∷ s) = by_byte (b == c) (has-lacks c s)
  where
    by_byte : (v : Bool) → list_any (λ b. b == c) s ≡ not (lacks c s) → (v || list_any (λ b. b == c) s) ≡ not (not v && lacks c s)
    by_byte true h = refl
    by_byte false h = h

pub has_colon-canonical : (s : List ℕ) → has_colon (canonical s) ≡ has_colon s
has_colon-canonical s = has-lacks colon (canonical s) ∙ ap not (lacks-canonical colon colon_reserved refl refl s) ∙ sym (has-lacks colon s)

pub single_lacks_slash : (s : List ℕ) → is_single_dot s ≡ true → LacksSlash s
single_lacks_slash s h = sym (lacks_slash-canonical s) ∙ ap (lacks slash) (single_is s h)

pub double_lacks_slash : (s : List ℕ) → is_double_dot s ≡ true → LacksSlash s
double_lacks_slash s h = sym (lacks_slash-canonical s) ∙ ap (lacks slash) (double_is s h)

pub dot_lacks_slash : (s : List ℕ) → is_dot_segment s ≡ true → LacksSlash s
dot_lacks_slash s h = by_single (is_single_dot s) refl
  where
    second : (a b : Bool) → (a || b) ≡ true → a ≡ false → b ≡ true
    second true b k e = cc
    second false b k e = k

    by_single : (v : Bool) → is_single_dot s ≡ v → LacksSlash s
    by_single true e = single_lacks_slash s e
    by_single false e = double_lacks_slash s (second (is_single_dot s) (is_double_dot s) h e)
