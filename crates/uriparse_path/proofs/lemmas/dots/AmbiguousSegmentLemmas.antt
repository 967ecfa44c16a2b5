-- A segment is ambiguous exactly if its canonical spelling is.
use Rattle.std.proofs.Common.{◌≡◌, ℕ, true, false, List, [], ◌∷◌, map, refl, sym, ap, ◌∙◌, arith}
use Rattle.std.specs.Prelude.{◌&&◌, ◌||◌}
use Rattle.std.specs.List.{list_all, list_any}
use Rattle.std.proofs.lemmas.Bool.{and_parts}
use Rattle.std.proofs.lemmas.Bool.Decides.{nat_tests}
use Rattle.uriparse_text.specs.declared.internal.token.Token.{Token}
use Rattle.uriparse_text.specs.declared.internal.token.Token.TheVariants.{Byte, Escape}
use Rattle.uriparse_text.specs.declared.internal.class.Class.TheVariants.{Segment}
use Rattle.uriparse_text.specs.declared.internal.token.Case.TheVariants.{Kept}
use Rattle.uriparse_text.specs.Ambiguous.{are_dots, has_ambiguous_escape, has_dots_before_end, is_ambiguous, is_ambiguous_byte, is_ambiguous_token, is_name_end, name_of}
use Rattle.uriparse_text.specs.Bytes.{is_unreserved}
use Rattle.uriparse_text.specs.Canonical.{canonical, canonical_token, escaped_byte}
use Rattle.uriparse_text.specs.Coding.{decoded}
use Rattle.uriparse_text.specs.Cuts.{up_to}
use Rattle.uriparse_text.specs.Segment.{is_segment}
use Rattle.uriparse_text.specs.Tokens.{has_digits, tokens}
use Rattle.uriparse_text.proofs.lemmas.canonical.CanonicalLemmas.{by_escaped, tokens-canonical_in, upper_value}
use Rattle.uriparse_text.proofs.lemmas.classes.ClassLemmas.{well_formed-in_class}
use Rattle.uriparse_text.proofs.lemmas.tokens.CodingLemmas.{decoded-canonical}
use Rattle.uriparse_text.proofs.lemmas.tokens.TokenLemmas.{digits-tokens}

reserved : (b : ℕ) → is_unreserved b ≡ true → is_ambiguous_byte b ≡ false
unfolding is_unreserved
reserved b h = grind (arith, nat_tests)

one_token : (t : Token) → has_digits t ≡ true → is_ambiguous_token (canonical_token Kept t) ≡ is_ambiguous_token t
one_token (Byte b) h = refl
one_token (Escape high low) h =
    let both = and_parts _ _ h in
    by_escaped Kept high low (λ t. is_ambiguous_token t ≡ is_ambiguous_byte (escaped_byte high low)) (λ e. sym (reserved (escaped_byte high low) e))
    (λ e. rw (upper_value high both.0, upper_value low both.1) refl)

all_tokens : (ts : List Token) → list_all has_digits ts ≡ true → list_any is_ambiguous_token (map (canonical_token Kept) ts) ≡ list_any is_ambiguous_token ts
all_tokens [] h = refl
all_tokens (t ∷ ts) h = let both = and_parts _ _ h in rw (one_token t both.0, all_tokens ts both.1) refl

escapes : (s : List ℕ) → is_segment s ≡ true → has_ambiguous_escape (canonical s) ≡ has_ambiguous_escape s
escapes s h = ap (list_any is_ambiguous_token) (tokens-canonical_in Kept s (well_formed-in_class Segment s h)) ∙ all_tokens (tokens s) (digits-tokens s)

-- the bytes that a segment stands for
same_bytes : (s : List ℕ) → is_segment s ≡ true → decoded (canonical s) ≡ decoded s
same_bytes s h = decoded-canonical s (well_formed-in_class Segment s h)

pub name_of-canonical : (s : List ℕ) → is_segment s ≡ true → name_of (canonical s) ≡ name_of s
name_of-canonical s h = ap (up_to is_name_end) (same_bytes s h)

dots : (s : List ℕ) → is_segment s ≡ true → has_dots_before_end (canonical s) ≡ has_dots_before_end s
dots s h = ap (λ d. list_any is_name_end d && are_dots (up_to is_name_end d)) (same_bytes s h)

pub ambiguous-canonical : (s : List ℕ) → is_segment s ≡ true → is_ambiguous (canonical s) ≡ is_ambiguous s
unfolding is_ambiguous
ambiguous-canonical s h = ap (λ v. v || has_dots_before_end (canonical s)) (escapes s h) ∙ ap (λ v. has_ambiguous_escape s || v) (dots s h)

pub each-ambiguous : (ss : List (List ℕ)) → list_all is_segment ss ≡ true → list_any is_ambiguous (map canonical ss) ≡ list_any is_ambiguous ss
each-ambiguous [] h = refl
each-ambiguous (s ∷ ss) h = let both = and_parts _ _ h in rw (ambiguous-canonical s both.0, each-ambiguous ss both.1) refl
