-- The canonical spelling of a path's text is that of a path, segment by segment.
use Rattle.std.proofs.Common.{◌≡◌, ℕ, Bool, true, false, ◌&&◌, cond, List, [], ◌∷◌, ◌++◌, suc, length, map, flat_map, drop, get_or, refl, sym, ap, subst, ◌∙◌, arith, append_assoc}
use Rattle.std.specs.List.{list_all}
use Rattle.std.proofs.lemmas.Bool.{and_parts, and_from}
use Rattle.std.proofs.lemmas.Bool.Decides.{nat_tests}
use Rattle.std.proofs.lemmas.Slice.Eq.{bytes_eq-Decides}
use Rattle.uriparse_text.specs.declared.internal.token.Token.{Token}
use Rattle.uriparse_text.specs.declared.internal.token.Token.TheVariants.{Byte, Escape}
use Rattle.uriparse_text.specs.declared.internal.class.Class.TheVariants.{Segment}
use Rattle.uriparse_text.specs.declared.internal.token.Case.TheVariants.{Kept}
use Rattle.uriparse_text.specs.Bytes.{slash, is_unreserved}
use Rattle.uriparse_text.specs.Tokens.{tokens, spell}
use Rattle.uriparse_text.specs.Canonical.{canonical_token, escaped_byte, canonical_in, canonical}
use Rattle.uriparse_text.proofs.lemmas.tokens.TokenLemmas.{spell-tokens}
use Rattle.uriparse_text.proofs.lemmas.canonical.CanonicalLemmas.{by_escaped, spell-canonical_token, canonical_in-append}
use Rattle.uriparse_text.proofs.lemmas.classes.ClassLemmas.{well_formed-in_class, IsIn-canonical_in}
use Rattle.uriparse_text.specs.Segment.{is_segment}
use Rattle.uriparse_text.proofs.lemmas.canonical.DotLemmas.{canonical-nil}
use Rattle.uriparse_path.specs.Path.{PathParts, IsListed, IsPath, root, text, is_slash, is_rooted, pieces, spelled, has_two_slashes, IsCounted}
use Rattle.uriparse_path.specs.Normal.{canonical_path, is_canonical}
use Rattle.uriparse_path.proofs.lemmas.text.PathTextLemmas.{spelled-text, listed-respelled, text-spelled, text-cons}

-- segments in canonical spelling
pub each_is_canonical : (ss : List (List ℕ)) → map canonical ss ≡ ss → list_all is_canonical ss ≡ true
each_is_canonical [] e = refl
each_is_canonical (s ∷ ss) e =
    and_from _ _ ((bytes_eq-Decides (canonical s) s).1 (ap (λ l. get_or l 0 []) e)) (each_is_canonical ss (ap (drop 1) e))

pub canonical-slash : (t : List ℕ) → canonical (slash ∷ t) ≡ slash ∷ canonical t
unfolding canonical_in tokens
canonical-slash t = canonical_in-append Kept (slash ∷ []) t refl

pub canonical-root : (a : Bool) (t : List ℕ) → canonical (root a ++ t) ≡ root a ++ canonical t
canonical-root true t = canonical-slash t
canonical-root false t = refl

pub canonical-following : (ss : List (List ℕ)) → list_all is_segment ss ≡ true →
    canonical (flat_map (λ s. slash ∷ s) ss) ≡ flat_map (λ s. slash ∷ s) (map canonical ss)
canonical-following [] h = canonical-nil
canonical-following (s ∷ ss) h =
    let both = and_parts _ _ h in
    canonical-slash (s ++ flat_map (λ r. slash ∷ r) ss)
    ∙ ap (λ u. slash ∷ u) (canonical_in-append Kept s (flat_map (λ r. slash ∷ r) ss) (well_formed-in_class Segment s both.0)
    ∙ ap (λ u. canonical s ++ u) (canonical-following ss both.1))

pub canonical-text : (p : PathParts) → IsListed p.segments → canonical (text p) ≡ text (canonical_path p)
canonical-text p is = by_shape p.absolute p.segments is
  where
    by_shape : (a : Bool) (ss : List (List ℕ)) → IsListed ss
        → canonical (text (record { absolute = a; segments = ss })) ≡ text (record { absolute = a; segments = map canonical ss })
    by_shape a [] is = absurd (omega (arith, is.some))
    by_shape a (s ∷ ss) is =
        let both = and_parts _ _ is.each in
        ap canonical (text-cons a (s ∷ ss) s ss refl)
        ∙ canonical-root a (s ++ flat_map (λ r. slash ∷ r) ss)
        ∙ ap (λ u. root a ++ u) (canonical_in-append Kept s (flat_map (λ r. slash ∷ r) ss) (well_formed-in_class Segment s both.0)
        ∙ ap (λ u. canonical s ++ u) (canonical-following ss both.1))
        ∙ sym (text-cons a (map canonical (s ∷ ss)) (canonical s) (map canonical ss) refl)

pub each-canonical : (ss : List (List ℕ)) → list_all is_segment ss ≡ true → list_all is_segment (map canonical ss) ≡ true
each-canonical [] h = refl
each-canonical (s ∷ ss) h = let both = and_parts _ _ h in and_from _ _ (IsIn-canonical_in Segment Kept s both.0) (each-canonical ss both.1)

pub length-canonical : (ss : List (List ℕ)) → length (map canonical ss) ≡ length ss
length-canonical [] = refl
length-canonical (s ∷ ss) = ap suc (length-canonical ss)

pub counted-canonical : (ss : List (List ℕ)) → IsCounted ss → IsCounted (map canonical ss)
counted-canonical ss is = record { some = rw (length-canonical ss) is.some; short = rw (length-canonical ss) is.short }

pub listed-canonical : (ss : List (List ℕ)) → IsListed ss → IsListed (map canonical ss)
listed-canonical ss is = record { some = rw (length-canonical ss) is.some; short = rw (length-canonical ss) is.short; each = each-canonical ss is.each }

-- the text of a path is that of a path
pub is_path-text : (p : PathParts) → IsListed p.segments → IsPath (text p)
is_path-text p is = subst (λ q. IsListed q.segments) (sym (spelled-text p is)) (listed-respelled p is)

pub is_path-canonical : (t : List ℕ) → IsPath t → IsPath (canonical t)
is_path-canonical t is =
    let e : canonical t ≡ text (canonical_path (spelled t)) = ap canonical (sym (text-spelled t)) ∙ canonical-text (spelled t) is in
    subst IsPath (sym e) (is_path-text (canonical_path (spelled t)) (listed-canonical (pieces t) is))

-- ---- whether a text begins with slashes

not_slash : (b : ℕ) → is_unreserved b ≡ true → is_slash b ≡ false
unfolding is_unreserved
not_slash b h = grind (arith, nat_tests)

rooted-token : (t : Token) (u v : List ℕ) → is_rooted (spell (canonical_token Kept t) ++ u) ≡ is_rooted (spell t ++ v)
rooted-token (Byte b) u v = refl
rooted-token (Escape high low) u v = by_escaped Kept high low (λ t. is_rooted (spell t ++ u) ≡ false) (λ e. not_slash (escaped_byte high low) e) (λ e. refl)

-- how a text begins whose first byte is spelled canonically
pub rooted-front : (b : ℕ) (s u : List ℕ) → is_rooted (canonical (b ∷ s) ++ u) ≡ is_slash b
rooted-front b s u = ap (λ x. is_rooted (x ++ u)) (sym (spell-canonical_token Kept (b ∷ s))) ∙ by_tokens (tokens (b ∷ s)) (spell-tokens (b ∷ s))
  where
    by_tokens : (ts : List Token) → flat_map spell ts ≡ b ∷ s → is_rooted (flat_map spell (map (canonical_token Kept) ts) ++ u) ≡ is_slash b
    by_tokens [] e = absurd (cc)
    by_tokens (t ∷ ts) e =
        ap is_rooted (append_assoc (spell (canonical_token Kept t)) (flat_map spell (map (canonical_token Kept) ts)) u)
        ∙ rooted-token t (flat_map spell (map (canonical_token Kept) ts) ++ u) (flat_map spell ts)
        ∙ ap is_rooted e

rooted-tokens : (ts : List Token) → is_rooted (flat_map spell (map (canonical_token Kept) ts)) ≡ is_rooted (flat_map spell ts)
rooted-tokens [] = refl
rooted-tokens (t ∷ ts) = rooted-token t (flat_map spell (map (canonical_token Kept) ts)) (flat_map spell ts)

unrooted-token : (t : Token) (u v : List ℕ) → is_rooted u ≡ is_rooted v → has_two_slashes (spell (canonical_token Kept t) ++ u) ≡ has_two_slashes (spell t ++ v)
unrooted-token (Byte b) u v e =
    elim (is_slash b) as (λ w. (w && is_rooted (cond w u (b ∷ u))) ≡ (w && is_rooted (cond w v (b ∷ v)))) [ true ↦ e | false ↦ refl ]
unrooted-token (Escape high low) u v e =
    by_escaped Kept high low (λ t. has_two_slashes (spell t ++ u) ≡ false) (λ k. rw (not_slash (escaped_byte high low) k) refl) (λ k. refl)

two-tokens : (ts : List Token) → has_two_slashes (flat_map spell (map (canonical_token Kept) ts)) ≡ has_two_slashes (flat_map spell ts)
two-tokens [] = refl
two-tokens (t ∷ ts) = unrooted-token t (flat_map spell (map (canonical_token Kept) ts)) (flat_map spell ts) (rooted-tokens ts)

pub is_rooted-canonical : (t : List ℕ) → is_rooted (canonical t) ≡ is_rooted t
is_rooted-canonical t = ap is_rooted (sym (spell-canonical_token Kept t)) ∙ rooted-tokens (tokens t) ∙ ap is_rooted (spell-tokens t)

pub has_two_slashes-canonical : (t : List ℕ) → has_two_slashes (canonical t) ≡ has_two_slashes t
has_two_slashes-canonical t = ap has_two_slashes (sym (spell-canonical_token Kept t)) ∙ two-tokens (tokens t) ∙ ap has_two_slashes (spell-tokens t)
