-- How a text is cut at its tokens.
use Rattle.std.proofs.Common.{◌≡◌, ◌↔◌, ℕ, ◌≤◌, Bool, true, false, not, cond, ◌&&◌, List, [], ◌∷◌, ◌++◌, length, get_or, drop, refl, sym, ap, ◌∙◌, append_assoc}
use Rattle.std.proofs.Common.{append-nil, arith}
use Rattle.std.specs.Prelude.{◌==◌}
use Rattle.std.specs.List.{flat_map, list_all}
use Rattle.std.proofs.Math.Bool.{and-false}
use Rattle.std.proofs.lemmas.Bool.{cond-true, cond-false, and_parts, and_from}
use Rattle.std.proofs.lemmas.Bool.Decides.{nat_tests}
use Rattle.std.proofs.lemmas.List.Folds.{list_all-append}
use Rattle.uriparse_text.specs.declared.internal.token.Token.{Token}
use Rattle.uriparse_text.specs.declared.internal.token.Token.TheVariants.{Byte, Escape}
use Rattle.uriparse_text.specs.Bytes.{percent, is_hex}
use Rattle.uriparse_text.specs.Tokens.{is_escape, tokens, spell, is_token, has_digits, is_well_formed, IsConcatenation}

pub tokens-nil : tokens [] ≡ []
unfolding tokens
tokens-nil = refl

-- an escape is cut off as one token
pub tokens-escape : (b : ℕ) (after : List ℕ) → is_escape b after ≡ true
    → tokens (b ∷ after) ≡ Escape (get_or after 0 0) (get_or after 1 0) ∷ tokens (drop 2 after)
unfolding tokens
tokens-escape b [] is = cc
tokens-escape b (c ∷ []) is = cc
tokens-escape b (high ∷ low ∷ rest) is = cond-true _ _ _ is

-- any other byte by itself
pub tokens-byte : (b : ℕ) (after : List ℕ) → is_escape b after ≡ false → tokens (b ∷ after) ≡ Byte b ∷ tokens after
unfolding tokens
tokens-byte b [] never = refl
tokens-byte b (c ∷ []) never = refl
tokens-byte b (high ∷ low ∷ rest) never = cond-false _ _ _ never

-- what an escape is, by the places of its bytes
pub record IsEscapeAt (b : ℕ) (after : List ℕ) : Type 0 where
  pub long : 2 ≤ length after
  pub sign : b ≡ percent
  pub digits : (is_hex (get_or after 0 0) && is_hex (get_or after 1 0)) ≡ true
  pub whole : b ∷ after ≡ percent ∷ get_or after 0 0 ∷ get_or after 1 0 ∷ drop 2 after

pub escape_at : (b : ℕ) (after : List ℕ) → is_escape b after ≡ true → IsEscapeAt b after
escape_at b [] is = cc
escape_at b (c ∷ []) is = cc
escape_at b (high ∷ low ∷ rest) is =
    let sign : b ≡ percent = grind (arith, nat_tests) in
    record {
      long = omega arith;
      sign = sign;
      digits = grind (arith, nat_tests);
      whole = ap (λ x. x ∷ high ∷ low ∷ rest) sign;
    }

pub not_percent : (b : ℕ) (after : List ℕ) → not (b == percent) ≡ true → is_escape b after ≡ false
not_percent b after h = by_test (is_escape b after) refl
  where
    by_test : (v : Bool) → is_escape b after ≡ v → v ≡ false
    by_test true e = let sign : b ≡ percent = (escape_at b after e).sign in grind (arith, nat_tests)
    by_test false e = refl

-- a token at the front of a text is cut off first
pub tokens-spell : (t : Token) (rest : List ℕ) → is_token t ≡ true → tokens (spell t ++ rest) ≡ t ∷ tokens rest
tokens-spell (Byte b) rest h = tokens-byte b rest (not_percent b rest h)
tokens-spell (Escape high low) rest h = tokens-escape percent (high ∷ low ∷ rest) h

pub no_escape_with : (b mark : ℕ) (u : List ℕ) → is_hex mark ≡ false → is_escape b (mark ∷ u) ≡ false
no_escape_with b mark [] h = refl
no_escape_with b mark (c ∷ u) h = rw h (rw (and-false (b == percent)) refl)

pub no_escape_across : (b c mark : ℕ) (u : List ℕ) → is_hex mark ≡ false → is_escape b (c ∷ mark ∷ u) ≡ false
no_escape_across b c mark u h = rw h (and-false (b == percent && is_hex c))

-- a byte that is no digit begins a token, whatever is before it
pub tokens-border : (mark : ℕ) → is_hex mark ≡ false → (t u : List ℕ) → tokens (t ++ mark ∷ u) ≡ tokens t ++ tokens (mark ∷ u)
unfolding tokens
tokens-border mark digit [] u = refl
tokens-border mark digit (b ∷ []) u =
    tokens-byte b (mark ∷ u) (no_escape_with b mark u digit) ∙ ap (λ ts. Byte b ∷ ts) (tokens-border mark digit [] u)
tokens-border mark digit (b ∷ c ∷ []) u =
    tokens-byte b (c ∷ mark ∷ u) (no_escape_across b c mark u digit) ∙ ap (λ ts. Byte b ∷ ts) (tokens-border mark digit (c ∷ []) u)
tokens-border mark digit (b ∷ high ∷ low ∷ rest) u =
    at_front (is_escape b (high ∷ low ∷ rest)) (tokens-border mark digit rest u) (tokens-border mark digit (high ∷ low ∷ rest) u)
  where
    at_front : (v : Bool) → tokens (rest ++ mark ∷ u) ≡ tokens rest ++ tokens (mark ∷ u)
        → tokens (high ∷ low ∷ rest ++ mark ∷ u) ≡ tokens (high ∷ low ∷ rest) ++ tokens (mark ∷ u)
        → cond v (Escape high low ∷ tokens (rest ++ mark ∷ u)) (Byte b ∷ tokens (high ∷ low ∷ rest ++ mark ∷ u))
        ≡ cond v (Escape high low ∷ tokens rest) (Byte b ∷ tokens (high ∷ low ∷ rest)) ++ tokens (mark ∷ u)
    at_front true f g = ap (λ ts. Escape high low ∷ ts) f
    at_front false f g = ap (λ ts. Byte b ∷ ts) g

-- and is one by itself, if it begins no escape either
pub tokens-mark : (mark : ℕ) → is_hex mark ≡ false → not (mark == percent) ≡ true → (t u : List ℕ)
    → tokens (t ++ mark ∷ u) ≡ tokens t ++ Byte mark ∷ tokens u
tokens-mark mark digit sign t u = tokens-border mark digit t u ∙ ap (λ ts. tokens t ++ ts) (tokens-byte mark u (not_percent mark u sign))

-- tokens put together are cut as they were put together
pub tokens-flat_map : (ts : List Token) (rest : List ℕ) → list_all is_token ts ≡ true → tokens (flat_map spell ts ++ rest) ≡ ts ++ tokens rest
tokens-flat_map [] rest h = refl
tokens-flat_map (t ∷ ts) rest h =
    let both = and_parts _ _ h in
    ap tokens (append_assoc (spell t) (flat_map spell ts) rest)
    ∙ tokens-spell t (flat_map spell ts ++ rest) both.0
    ∙ ap (λ x. t ∷ x) (tokens-flat_map ts rest both.1)

pub tokens_of_concatenation : (ts : List Token) → list_all is_token ts ≡ true → tokens (flat_map spell ts) ≡ ts
tokens_of_concatenation ts h =
    ap tokens (sym (append-nil (flat_map spell ts))) ∙ tokens-flat_map ts [] h ∙ ap (λ x. ts ++ x) tokens-nil ∙ append-nil ts

-- the tokens of a text, put together, are the text
pub spell-tokens : (text : List ℕ) → flat_map spell (tokens text) ≡ text
unfolding tokens
spell-tokens [] = refl
spell-tokens (b ∷ []) = refl
spell-tokens (b ∷ c ∷ []) = refl
spell-tokens (b ∷ high ∷ low ∷ rest) =
    at_front (is_escape b (high ∷ low ∷ rest)) refl (spell-tokens rest) (spell-tokens (high ∷ low ∷ rest))
  where
    at_front : (v : Bool) → is_escape b (high ∷ low ∷ rest) ≡ v → flat_map spell (tokens rest) ≡ rest
        → flat_map spell (tokens (high ∷ low ∷ rest)) ≡ high ∷ low ∷ rest
        → flat_map spell (cond v (Escape high low ∷ tokens rest) (Byte b ∷ tokens (high ∷ low ∷ rest))) ≡ b ∷ high ∷ low ∷ rest
    at_front true e f g = ap (λ x. x ∷ high ∷ low ∷ flat_map spell (tokens rest)) (sym (escape_at b (high ∷ low ∷ rest) e).sign)
        ∙ ap (λ x. b ∷ high ∷ low ∷ x) f
    at_front false e f g = ap (λ x. b ∷ x) g

-- a text cut at a border of tokens
pub tokens-append : (front rest : List ℕ) → is_well_formed front ≡ true → tokens (front ++ rest) ≡ tokens front ++ tokens rest
tokens-append front rest h =
    ap (λ x. tokens (x ++ rest)) (sym (spell-tokens front)) ∙ tokens-flat_map (tokens front) rest h

pub well_formed-append : (front rest : List ℕ) → is_well_formed front ≡ true → is_well_formed rest ≡ true → is_well_formed (front ++ rest) ≡ true
well_formed-append front rest h k =
    ap (list_all is_token) (tokens-append front rest h) ∙ list_all-append is_token (tokens front) (tokens rest) ∙ and_from _ _ h k

-- the digits of the escapes that a text is cut into are hexadecimal
pub digits-tokens : (text : List ℕ) → list_all has_digits (tokens text) ≡ true
unfolding tokens
digits-tokens [] = refl
digits-tokens (b ∷ []) = refl
digits-tokens (b ∷ c ∷ []) = refl
digits-tokens (b ∷ high ∷ low ∷ rest) =
    at_front (is_escape b (high ∷ low ∷ rest)) refl (digits-tokens rest) (digits-tokens (high ∷ low ∷ rest))
  where
    at_front : (v : Bool) → is_escape b (high ∷ low ∷ rest) ≡ v → list_all has_digits (tokens rest) ≡ true
        → list_all has_digits (tokens (high ∷ low ∷ rest)) ≡ true
        → list_all has_digits (cond v (Escape high low ∷ tokens rest) (Byte b ∷ tokens (high ∷ low ∷ rest))) ≡ true
    at_front true e f g = and_from _ _ (escape_at b (high ∷ low ∷ rest) e).digits f
    at_front false e f g = g

-- ---- in the standard's words

pub well_formed_iff : (text : List ℕ) → (is_well_formed text ≡ true) ↔ ((ts : List Token) × IsConcatenation ts text)
well_formed_iff text = (
  λ h. (tokens text, record { whole = sym (spell-tokens text); each = h }),
  λ (ts, is). ap (list_all is_token) (ap tokens is.whole ∙ tokens_of_concatenation ts is.each) ∙ is.each,
)

pub one_concatenation : (text : List ℕ) (ts us : List Token) → IsConcatenation ts text → IsConcatenation us text → ts ≡ us
one_concatenation text ts us is also =
    sym (tokens_of_concatenation ts is.each) ∙ ap tokens (sym is.whole ∙ also.whole) ∙ tokens_of_concatenation us also.each
