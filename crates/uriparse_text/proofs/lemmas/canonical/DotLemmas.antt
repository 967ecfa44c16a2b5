-- Dot segments, plain and escaped, and the empty segment.
use Rattle.std.proofs.Common.{◌≡◌, ℕ, ◌<◌, Bool, true, false, not, ◌||◌, List, [], ◌∷◌, length, map, flat_map, refl, sym, ap, ◌∙◌, arith, Some}
use Rattle.std.proofs.Common.{None, slice_get, ◌⊎◌, inl, inr, ⊎_elim, ◌≤◌, ◌*◌, cond, subst, length-append}
use Rattle.std.specs.Char.{to_ascii_uppercase}
use Rattle.std.specs.Prelude.{◌==◌, ◌↔◌, IsTrue, bytes_eq}
use Rattle.std.specs.Bool.{one_answer}
use Rattle.std.specs.List.{list_all}
use Rattle.std.proofs.Math.Bool.{or-true}
use Rattle.std.proofs.lemmas.Bool.{eq-eqb, ne_eqb}
use Rattle.std.proofs.lemmas.Slice.Eq.{bytes_eq-Decides}
use Rattle.uriparse_text.specs.declared.internal.token.Token.{Token}
use Rattle.uriparse_text.specs.declared.internal.token.Token.TheVariants.{Byte, Escape}
use Rattle.uriparse_text.specs.declared.internal.class.Class.TheVariants.{Segment}
use Rattle.uriparse_text.specs.declared.internal.token.Case.TheVariants.{Kept}
use Rattle.uriparse_text.specs.Bytes.{dot, percent, is_unreserved}
use Rattle.uriparse_text.specs.Tokens.{tokens, spell}
use Rattle.uriparse_text.specs.Faults.{allows}
use Rattle.uriparse_text.specs.Canonical.{canonical_token, escaped_byte, canonical_in, canonical, SpellsAlike}
use Rattle.uriparse_text.specs.Segment.{is_segment, is_single_dot, is_double_dot, is_dot_segment}
use Rattle.uriparse_text.proofs.lemmas.tokens.TokenLemmas.{tokens-nil, spell-tokens}
use Rattle.uriparse_text.proofs.lemmas.canonical.RunLemmas.{canonical_in-stays}

-- ---- the empty segment

pub empty_segment : is_segment [] ≡ true
empty_segment = ap (list_all (allows Segment)) tokens-nil

pub canonical-nil : canonical [] ≡ []
unfolding canonical_in
canonical-nil = ap (λ ts. flat_map spell (map (canonical_token Kept) ts)) tokens-nil

-- ---- what the tests say

bytes_same : (s t : List ℕ) → bytes_eq s t ≡ true → s ≡ t
bytes_same s t h = (bytes_eq-Decides s t).0 h

pub single_is : (s : List ℕ) → is_single_dot s ≡ true → canonical s ≡ dot ∷ []
unfolding is_single_dot
single_is s h = bytes_same (canonical s) (dot ∷ []) h

pub double_is : (s : List ℕ) → is_double_dot s ≡ true → canonical s ≡ dot ∷ dot ∷ []
unfolding is_double_dot
double_is s h = bytes_same (canonical s) (dot ∷ dot ∷ []) h

pub single_of : (s : List ℕ) → canonical s ≡ dot ∷ [] → is_single_dot s ≡ true
unfolding is_single_dot
single_of s e = (bytes_eq-Decides (canonical s) (dot ∷ [])).1 e

pub double_of : (s : List ℕ) → canonical s ≡ dot ∷ dot ∷ [] → is_double_dot s ≡ true
unfolding is_double_dot
double_of s e = (bytes_eq-Decides (canonical s) (dot ∷ dot ∷ [])).1 e

pub canonical-dot : canonical (dot ∷ []) ≡ dot ∷ []
unfolding canonical_in tokens
canonical-dot = refl

pub canonical-dots : canonical (dot ∷ dot ∷ []) ≡ dot ∷ dot ∷ []
unfolding canonical_in tokens
canonical-dots = refl

-- ---- the tests by comparing

pub single_by : (s : List ℕ) (r : Bool) → (IsTrue r ↔ SpellsAlike Kept (dot ∷ []) s) → r ≡ is_single_dot s
unfolding tokens
single_by s r h = one_answer r (is_single_dot s) h (
  λ k. record { formed = refl; same = canonical-dot ∙ sym (single_is s k) },
  λ is. single_of s (sym is.same
      ∙ canonical-dot),
)

pub double_by : (s : List ℕ) (r : Bool) → (IsTrue r ↔ SpellsAlike Kept (dot ∷ dot ∷ []) s) → r ≡ is_double_dot s
unfolding tokens
double_by s r h = one_answer r (is_double_dot s) h (
  λ k. record { formed = refl; same = canonical-dots ∙ sym (double_is s k) },
  λ is. double_of s (sym is.same
      ∙ canonical-dots),
)

pub empty_single : is_single_dot [] ≡ false
unfolding is_single_dot
empty_single = ap (λ u. bytes_eq u (dot ∷ [])) canonical-nil

pub empty_double : is_double_dot [] ≡ false
unfolding is_double_dot
empty_double = ap (λ u. bytes_eq u (dot ∷ dot ∷ [])) canonical-nil

pub empty_no_dot : is_dot_segment [] ≡ false
empty_no_dot = rw (empty_single, empty_double) refl

-- ---- how a dot segment begins

single_or_double : (s : List ℕ) → is_dot_segment s ≡ true → (canonical s ≡ dot ∷ []) ⊎ (canonical s ≡ dot ∷ dot ∷ [])
single_or_double s h = by_single (is_single_dot s) refl h
  where
    by_single : (v : Bool) → is_single_dot s ≡ v → (v || is_double_dot s) ≡ true → (canonical s ≡ dot ∷ []) ⊎ (canonical s ≡ dot ∷ dot ∷ [])
    by_single true e k = inl (single_is s e)
    by_single false e k = inr (double_is s k)

b-is-b : (b : ℕ) → (b == b) ≡ true
b-is-b b = eq-eqb b b refl

pub dots_begin : (b : ℕ) (t : List ℕ) → is_dot_segment (b ∷ t) ≡ true → (b == dot || b == percent) ≡ true
dots_begin b t h = by_escape (b == percent) refl
  where
    stays : (b == percent) ≡ false → canonical (b ∷ t) ≡ b ∷ canonical t
    stays e = canonical_in-stays Kept b t (ap (λ v. v || not (b == b)) e ∙ ap not (b-is-b b))

    is_dot : (b == percent) ≡ false → b ≡ dot
    is_dot e = ⊎_elim (λ k. let same = stays e in cc) (λ k. let same = stays e in cc) (single_or_double (b ∷ t) h)

    by_escape : (v : Bool) → (b == percent) ≡ v → (b == dot || v) ≡ true
    by_escape true e = or-true (b == dot)
    by_escape false e = ap (λ c. c == dot || false) (is_dot e)

pub first_of_dots : (s : List ℕ) (b : ℕ) → Some b ≡ slice_get s 0 → (b ≡ dot → ⊥) → is_dot_segment s ≡ true → (b == percent) ≡ true
first_of_dots [] b e n h = cc
first_of_dots (c ∷ t) b e n h =
    let same : b ≡ c = cc in
    ap (λ x. x == percent) same ∙ ap (λ v. v || c == percent) (sym (ne_eqb c dot (λ k. n (same ∙ k)))) ∙ dots_begin c t h

pub none_of_dots : (s : List ℕ) → None ≡ slice_get s 0 → is_dot_segment s ≡ true → false ≡ true
none_of_dots [] e h = sym empty_no_dot ∙ h
none_of_dots (c ∷ t) e h = cc

pub no_single : (s : List ℕ) (r : Bool) → (is_dot_segment s ≡ true → r ≡ true) → r ≡ false → false ≡ is_single_dot s
no_single s r h e = by_single (is_single_dot s) refl
  where
    by_single : (v : Bool) → is_single_dot s ≡ v → false ≡ v
    by_single true k = sym e ∙ h (ap (λ v. v || is_double_dot s) k)
    by_single false k = refl

pub no_double : (s : List ℕ) (r : Bool) → (is_dot_segment s ≡ true → r ≡ true) → r ≡ false → false ≡ is_double_dot s
no_double s r h e = by_double (is_double_dot s) refl
  where
    by_double : (v : Bool) → is_double_dot s ≡ v → false ≡ v
    by_double true k = sym e ∙ h (ap (λ v. is_single_dot s || v) k ∙ or-true (is_single_dot s))
    by_double false k = refl

-- ---- the length of a dot segment

-- a token has three bytes at most, and at least one in canonical form
at_most : (ts : List Token) → length (flat_map spell ts) ≤ 3 * length (flat_map spell (map (canonical_token Kept) ts))
at_most [] = omega arith
at_most (Byte b ∷ ts) =
    let rest = at_most ts in
    let long = length-append (b ∷ []) (flat_map spell ts) in
    let short = length-append (spell (canonical_token Kept (Byte b))) (flat_map spell (map (canonical_token Kept) ts)) in
    omega (arith, rest, long, short)
at_most (Escape high low ∷ ts) =
    let rest = at_most ts in
    let long = length-append (spell (Escape high low)) (flat_map spell ts) in
    let short = length-append (spell (canonical_token Kept (Escape high low))) (flat_map spell (map (canonical_token Kept) ts)) in
    let some = one_byte (is_unreserved (escaped_byte high low)) in
    omega (arith, rest, long, short, some)
  where
    one_byte : (v : Bool) → 0 < length (spell (cond v (Byte (escaped_byte high low)) (Escape (to_ascii_uppercase high) (to_ascii_uppercase low))))
    one_byte true = omega arith
    one_byte false = omega arith

pub canonical_length : (s : List ℕ) → length s ≤ 3 * length (canonical s)
unfolding canonical_in
canonical_length s = subst (λ t. length t ≤ 3 * length (canonical s)) (spell-tokens s) (at_most (tokens s))

pub dots_short : (s : List ℕ) → is_dot_segment s ≡ true → length s ≤ 6
dots_short s h = ⊎_elim (λ e. omega (arith, canonical_length s, ap length e)) (λ e. omega (arith, canonical_length s, ap length e)) (single_or_double s h)
