-- Texts are spelled alike if they are so piece by piece, before a slash and after it.
use Rattle.std.proofs.Common.{◌≡◌, ◌↔◌, ℕ, ◌+◌, ◌<◌, ◌≤◌, Bool, true, false, cond, List, [], ◌∷◌, ◌++◌, length, map, flat_map, take, drop, get_or, refl, sym, ap, subst, ◌∙◌}
use Rattle.std.proofs.Common.{append-nil}
use Rattle.std.specs.Prelude.{bytes_eq, ◌&&◌, ◌==◌}
use Rattle.std.specs.Bool.{Decides}
use Rattle.std.specs.List.{list_all, slice_split}
use Rattle.std.specs.Ordering.{on}
use Rattle.std.specs.Cmp.Lexicographic.{pointwise}
use Rattle.std.specs.Cmp.Derive.Mapped.{pointwise-map}
use Rattle.std.proofs.Math.ListN.{drop_of_length-le}
use Rattle.std.proofs.lemmas.Bool.{and_parts, and_from, eqb-true, false≢true}
use Rattle.std.proofs.lemmas.Bool.Decides.{same_from_decides}
use Rattle.std.proofs.lemmas.List.{map-append, drop_more, take-append-drop, nil_from_length}
use Rattle.std.proofs.lemmas.List.Folds.{list_all-append}
use Rattle.std.proofs.lemmas.Grind.{flat_map-append}
use Rattle.std.proofs.lemmas.Slice.Eq.{bytes_eq-Decides, slice_eq-Decides}
use Rattle.uriparse_text.specs.declared.internal.token.Case.TheVariants.{Kept}
use Rattle.uriparse_text.specs.declared.internal.class.Class.TheVariants.{Segment}
use Rattle.uriparse_text.specs.Bytes.{slash}
use Rattle.uriparse_text.specs.Cuts.{up_to, from_first}
use Rattle.uriparse_text.specs.Tokens.{tokens, spell, is_token, is_well_formed}
use Rattle.uriparse_text.specs.Canonical.{canonical_token, canonical_in, canonical, SpellsAlike}
use Rattle.uriparse_text.proofs.lemmas.tokens.TokenLemmas.{tokens-nil, tokens-byte, tokens-mark, not_percent}
use Rattle.uriparse_text.proofs.lemmas.readings.CutLemmas.{up_to-append, from_first-append, up_to-none, from_first-head, cut-whole}
use Rattle.uriparse_text.proofs.lemmas.classes.ClassLemmas.{well_formed-in_class}
use Rattle.uriparse_text.specs.Segment.{is_segment}
use Rattle.uriparse_path.specs.Path.{is_slash, is_rooted, root, unrooted}
use Rattle.uriparse_path.specs.Dots.{LacksSlash, IsRest}
use Rattle.uriparse_path.proofs.lemmas.text.SplitLemmas.{joined-following}
use Rattle.uriparse_path.proofs.lemmas.text.PathTextLemmas.{lacks_slash, pieces-segments, root-unrooted}
use Rattle.uriparse_text.proofs.lemmas.canonical.DotLemmas.{canonical-nil}
use Rattle.uriparse_path.proofs.lemmas.text.CanonicalTextLemmas.{canonical-slash, canonical-following, each-canonical, is_rooted-canonical}
use Rattle.uriparse_path.proofs.lemmas.dots.DotSegmentLemmas.{lacks_slash-canonical, canonical-empty}
use Rattle.uriparse_text.proofs.lemmas.canonical.DotLemmas.{empty_segment}

-- the segments, a slash before each
abbrev following : List (List ℕ) → List ℕ
following ss = flat_map (λ s. slash ∷ s) ss

-- ---- a text and the rest after it, which is empty or begins with a slash

tokens-rest : (t r : List ℕ) → IsRest r → tokens (t ++ r) ≡ tokens t ++ tokens r
tokens-rest t [] is = ap tokens (append-nil t) ∙ sym (ap (λ ts. tokens t ++ ts) tokens-nil ∙ append-nil (tokens t))
tokens-rest t (b ∷ u) is =
    subst (λ c. tokens (t ++ c ∷ u) ≡ tokens t ++ tokens (c ∷ u)) (sym is)
    (tokens-mark slash refl refl t u ∙ ap (λ ts. tokens t ++ ts) (sym (tokens-byte slash u (not_percent slash u refl))))

well_formed-rest : (t r : List ℕ) → IsRest r → is_well_formed (t ++ r) ≡ (is_well_formed t && is_well_formed r)
well_formed-rest t r is = ap (list_all is_token) (tokens-rest t r is) ∙ list_all-append is_token (tokens t) (tokens r)

canonical-rest : (t r : List ℕ) → IsRest r → canonical (t ++ r) ≡ canonical t ++ canonical r
unfolding canonical_in
canonical-rest t r is =
    ap (λ ts. flat_map spell (map (canonical_token Kept) ts)) (tokens-rest t r is)
    ∙ ap (flat_map spell) (map-append (canonical_token Kept) (tokens t) (tokens r))
    ∙ flat_map-append spell (map (canonical_token Kept) (tokens t)) (map (canonical_token Kept) (tokens r))

is_rest-canonical : (r : List ℕ) → IsRest r → IsRest (canonical r)
is_rest-canonical [] is = subst IsRest (sym canonical-nil) tt
is_rest-canonical (b ∷ u) is = subst (λ c. IsRest (canonical (c ∷ u))) (sym is) (subst IsRest (sym (canonical-slash u)) refl)

is_rest-following : (ss : List (List ℕ)) → IsRest (following ss)
is_rest-following [] = tt
is_rest-following (s ∷ ss) = refl

is_rest-from_first : (t : List ℕ) → IsRest (from_first is_slash t)
is_rest-from_first t = by_rest (from_first is_slash t) refl
  where
    by_rest : (r : List ℕ) → from_first is_slash t ≡ r → IsRest r
    by_rest [] e = tt
    by_rest (b ∷ u) e = eqb-true b slash (from_first-head is_slash t b u e)

cut_at : (t r : List ℕ) → LacksSlash t → IsRest r → (up_to is_slash (t ++ r) ≡ t) × (from_first is_slash (t ++ r) ≡ r)
cut_at t [] h is = (up_to-append is_slash t [] h ∙ append-nil t, from_first-append is_slash t [] h)
cut_at t (b ∷ u) h is =
    let here : is_slash b ≡ true = ap is_slash is in (
      up_to-append is_slash t (b ∷ u) h ∙ ap (λ v. t ++ cond v [] (b ∷ up_to is_slash u)) here ∙ append-nil t,
      from_first-append is_slash t (b ∷ u) h ∙ ap (λ v. cond v (b ∷ u) (from_first is_slash u)) here,
    )

-- such a cut is the only one
one_cut : (t r u q : List ℕ) → LacksSlash t → IsRest r → LacksSlash u → IsRest q → t ++ r ≡ u ++ q → (t ≡ u) × (r ≡ q)
one_cut t r u q h is k also e =
    let left = cut_at t r h is in
    let right = cut_at u q k also in
    (sym left.0 ∙ ap (up_to is_slash) e ∙ right.0, sym left.1 ∙ ap (from_first is_slash) e ∙ right.1)

canonical_cut : (t r u q : List ℕ) → LacksSlash t → IsRest r → LacksSlash u → IsRest q → canonical (t ++ r) ≡ canonical (u ++ q)
    → (canonical t ≡ canonical u) × (canonical r ≡ canonical q)
canonical_cut t r u q h is k also e =
    one_cut (canonical t) (canonical r) (canonical u) (canonical q) (lacks_slash-canonical t ∙ h) (is_rest-canonical r is)
    (lacks_slash-canonical u ∙ k) (is_rest-canonical q also) (sym (canonical-rest t r is) ∙ e ∙ canonical-rest u q also)

pub is_rest-empty : (r : List ℕ) → (length r == 0) ≡ true → IsRest r
is_rest-empty r h = subst IsRest (sym (nil_from_length r (eqb-true (length r) 0 h))) tt

pub is_rest-slash : (r : List ℕ) → get_or r 0 0 ≡ slash → IsRest r
is_rest-slash [] h = tt
is_rest-slash (b ∷ u) h = h

-- a segment's own bytes at the front, with such a rest after them
pub own_piece : (t s rest : List ℕ) → bytes_eq (take (length s) t) s ≡ true → rest ≡ drop (length s) t → is_segment s ≡ true → IsRest rest
    → SpellsAlike Kept (up_to is_slash t) s × (rest ≡ from_first is_slash t)
own_piece t s rest same following h is =
    let whole : t ≡ s ++ rest =
    sym (take-append-drop (length s) t) ∙ ap (λ u. u ++ drop (length s) t) ((bytes_eq-Decides (take (length s) t) s).0 same) ∙ ap (λ u. s ++ u) (sym following) in
    let cut = cut_at s rest (lacks_slash s h) is in
    let piece : up_to is_slash t ≡ s = ap (up_to is_slash) whole ∙ cut.0 in
    let formed = well_formed-in_class Segment s h in
    (record { formed = ap is_well_formed piece ∙ formed; same = ap canonical piece }, sym (ap (from_first is_slash) whole ∙ cut.1))

-- ---- a text that is compared with a path's

-- its piece before the first slash with the front, and its rest with what follows that
pub alike_front : (t shown front : List ℕ) (ss : List (List ℕ)) → shown ≡ front ++ following ss → is_segment front ≡ true
    → (SpellsAlike Kept (up_to is_slash t) front × SpellsAlike Kept (from_first is_slash t) (following ss)) ↔ SpellsAlike Kept t shown
alike_front t shown front ss whole h =
    let piece = up_to is_slash t in
    let rest = from_first is_slash t in
    let cut : piece ++ rest ≡ t = cut-whole is_slash t in
    let ends = is_rest-from_first t in
    let last = is_rest-following ss in
    let formed : is_well_formed t ≡ (is_well_formed piece && is_well_formed rest) = ap is_well_formed (sym cut) ∙ well_formed-rest piece rest ends in (
      λ (a, b). record {
        formed = formed ∙ and_from _ _ a.formed b.formed;
        same = ap canonical (sym cut) ∙ canonical-rest piece rest ends ∙ ap (λ u. u ++ canonical rest) a.same ∙ ap (λ u. canonical front ++ u) b.same
            ∙ sym (canonical-rest front (following ss) last) ∙ ap canonical (sym whole);
      },
      λ s.
          let each = and_parts _ _ (sym formed ∙ s.formed) in
          let both =
          canonical_cut piece rest front (following ss) (up_to-none is_slash t) ends (lacks_slash front h) last
          (ap canonical cut ∙ s.same ∙ ap canonical whole) in
          (record { formed = each.0; same = both.0 }, record { formed = each.1; same = both.1 }),
    )

well_formed-slash : (t : List ℕ) → is_well_formed (slash ∷ t) ≡ is_well_formed t
well_formed-slash t = ap (list_all is_token) (tokens-byte slash t (not_percent slash t refl))

after_slash : (t u : List ℕ) → is_rooted t ≡ true → SpellsAlike Kept (unrooted t) u ↔ SpellsAlike Kept t (slash ∷ u)
after_slash t u h =
    let whole : slash ∷ unrooted t ≡ t = ap (λ a. root a ++ unrooted t) (sym h) ∙ root-unrooted t in (
      λ s. record {
        formed = ap is_well_formed (sym whole) ∙ well_formed-slash (unrooted t) ∙ s.formed;
        same = ap canonical (sym whole) ∙ canonical-slash (unrooted t) ∙ ap (λ r. slash ∷ r) s.same ∙ sym (canonical-slash u);
      },
      λ s.
          let same : slash ∷ canonical (unrooted t) ≡ slash ∷ canonical u =
          sym (canonical-slash (unrooted t)) ∙ ap canonical whole ∙ s.same ∙ canonical-slash u in
          record { formed = sym (well_formed-slash (unrooted t)) ∙ ap is_well_formed whole ∙ s.formed; same = cc },
    )

no_slash : (t u : List ℕ) → is_rooted t ≡ false → SpellsAlike Kept t (slash ∷ u) → ⊥
no_slash t u h s = false≢true (sym h ∙ sym (is_rooted-canonical t) ∙ ap is_rooted s.same ∙ is_rooted-canonical (slash ∷ u))

-- nothing but the empty text is spelled as that
alike_end : (t : List ℕ) → (t ≡ []) ↔ SpellsAlike Kept t []
alike_end t = (
  λ e. record { formed = ap is_well_formed e ∙ ap (list_all is_token) tokens-nil; same = ap canonical e },
  λ s. canonical-empty t (s.same ∙ canonical-nil),
)

-- the segments from a place on are left, and the rest of the text spells them if the whole text spells all
pub record IsAlikeFrom (t : List ℕ) (ss : List (List ℕ)) (i : ℕ) (rest : List ℕ) : Type 0 where
  pub each : list_all is_segment (drop i ss) ≡ true
  pub alike : SpellsAlike Kept rest (following (drop i ss)) ↔ SpellsAlike Kept t (following ss)

-- the next segment is that of the text's next piece, if a slash precedes it and the two are alike
module _ (t : List ℕ) (ss : List (List ℕ)) (i : ℕ) (rest s : List ℕ) (is : IsAlikeFrom t ss i rest) (within : i < length ss) (item : s ≡ get_or ss i s)
    (rooted : Bool) (inner : List ℕ) (root : rooted ≡ is_rooted rest) (inside : inner ≡ unrooted rest) where
  abbrev others : List (List ℕ)
  others = drop (i + 1) ss

  next : drop i ss ≡ s ∷ others
  next = drop_more ss i s within ∙ ap (λ x. x ∷ others) (sym item)

  each : (is_segment s ≡ true) × (list_all is_segment others ≡ true)
  each = and_parts _ _ (ap (list_all is_segment) (sym next) ∙ is.each)

  here : SpellsAlike Kept rest (slash ∷ (s ++ following others)) ↔ SpellsAlike Kept t (following ss)
  here = subst (λ l. SpellsAlike Kept rest (following l) ↔ SpellsAlike Kept t (following ss)) next is.alike

  cut : (SpellsAlike Kept (up_to is_slash inner) s × SpellsAlike Kept (from_first is_slash inner) (following others)) ↔ SpellsAlike Kept inner (s ++ following others)
  cut = alike_front inner (s ++ following others) s others refl each.0

  slashed : rooted ≡ true → SpellsAlike Kept inner (s ++ following others) ↔ SpellsAlike Kept rest (slash ∷ (s ++ following others))
  slashed h =
      subst (λ u. SpellsAlike Kept u (s ++ following others) ↔ SpellsAlike Kept rest (slash ∷ (s ++ following others))) (sym inside)
      (after_slash rest (s ++ following others) (sym root ∙ h))

  pub alike_more : rooted ≡ true → SpellsAlike Kept (up_to is_slash inner) s → IsAlikeFrom t ss (i + 1) (from_first is_slash inner)
  alike_more h alike = record {
    each = each.1;
    alike = (λ a. here.0 ((slashed h).0 (cut.0 (alike, a))), λ a. (cut.1 ((slashed h).1 (here.1 a))).1);
  }

  pub other_piece : rooted ≡ true → (SpellsAlike Kept (up_to is_slash inner) s → ⊥) → SpellsAlike Kept t (following ss) → ⊥
  other_piece h never a = never (cut.1 ((slashed h).1 (here.1 a))).0

  pub no_root : rooted ≡ false → SpellsAlike Kept t (following ss) → ⊥
  no_root h a = no_slash rest (s ++ following others) (sym root ∙ h) (here.1 a)

pub alike_ends : (t rest : List ℕ) (ss : List (List ℕ)) (i : ℕ) → IsAlikeFrom t ss i rest → length ss ≤ i → (rest ≡ []) ↔ SpellsAlike Kept t (following ss)
alike_ends t rest ss i is past =
    let here : SpellsAlike Kept rest [] ↔ SpellsAlike Kept t (following ss) =
    subst (λ l. SpellsAlike Kept rest (following l) ↔ SpellsAlike Kept t (following ss)) (drop_of_length-le ss past) is.alike in
    let empty = alike_end rest in
    (λ e. here.0 (empty.0 e), λ a. empty.1 (here.1 a))

-- ---- two paths, by what precedes their first slashes and the segments after them

one_list : (ss rs : List (List ℕ)) → list_all is_segment ss ≡ true → list_all is_segment rs ≡ true → following ss ≡ following rs → ss ≡ rs
one_list ss rs h k e =
    let split : [] ∷ ss ≡ [] ∷ rs =
    sym (pieces-segments [] ss (and_from _ _ empty_segment h)) ∙ ap (slice_split is_slash) (joined-following [] ss ∙ e ∙ sym (joined-following [] rs)) ∙ pieces-segments [] rs (and_from _ _ empty_segment k) in
    cc

same_canonical : (x y : List ℕ) (ss rs : List (List ℕ)) → is_segment x ≡ true → is_segment y ≡ true → list_all is_segment ss ≡ true →
    list_all is_segment rs ≡ true
    → ((canonical x ≡ canonical y) × (map canonical ss ≡ map canonical rs)) ↔ (canonical (x ++ following ss) ≡ canonical (y ++ following rs))
same_canonical x y ss rs h k each also = (
  λ (e, f). canonical-rest x (following ss) (is_rest-following ss) ∙ ap (λ u. u ++ canonical (following ss)) e
      ∙ ap (λ u. canonical y ++ u) (canonical-following ss each ∙ ap following f ∙ sym (canonical-following rs also))
      ∙ sym (canonical-rest y (following rs) (is_rest-following rs)),
  λ e.
      let both = canonical_cut x (following ss) y (following rs) (lacks_slash x h) (is_rest-following ss) (lacks_slash y k) (is_rest-following rs) e in (
        both.0,
        one_list (map canonical ss) (map canonical rs) (each-canonical ss each) (each-canonical rs also)
            (sym (canonical-following ss each) ∙ both.1 ∙ canonical-following rs also),
      ),
)

-- the fronts are alike, and so are the segments after them
pub same_paths : (t u x y : List ℕ) (ss rs : List (List ℕ)) (r : Bool) → t ≡ x ++ following ss → u ≡ y ++ following rs → is_segment x ≡ true →
    is_segment y ≡ true → list_all is_segment ss ≡ true → list_all is_segment rs ≡ true → SpellsAlike Kept x y →
    r ≡ pointwise (on canonical bytes_eq) ss rs → r ≡ bytes_eq (canonical t) (canonical u)
same_paths t u x y ss rs r whole other h k each also alike e =
    let decides : Decides r (map canonical ss ≡ map canonical rs) =
    slice_eq-Decides bytes_eq-Decides (map canonical ss) (map canonical rs) r (e ∙ sym (pointwise-map canonical bytes_eq ss rs)) in
    let same = same_canonical x y ss rs h k each also in
    same_from_decides r (bytes_eq (canonical t) (canonical u)) (
      λ a. ap canonical whole ∙ same.0 (alike.same, decides.0 a) ∙ ap canonical (sym other),
      λ a. decides.1 (same.1 (ap canonical (sym whole) ∙ a ∙ ap canonical other)).1,
    ) (bytes_eq-Decides (canonical t) (canonical u))

-- the fronts differ
pub other_fronts : (t u x y : List ℕ) (ss rs : List (List ℕ)) (r : Bool) → t ≡ x ++ following ss → u ≡ y ++ following rs → is_segment x ≡ true →
    is_segment y ≡ true → list_all is_segment ss ≡ true → list_all is_segment rs ≡ true → (SpellsAlike Kept x y → ⊥) → r ≡ false →
    r ≡ bytes_eq (canonical t) (canonical u)
other_fronts t u x y ss rs r whole other h k each also differ e =
    same_from_decides r (bytes_eq (canonical t) (canonical u)) (
      λ a. absurd (false≢true (sym e ∙ a)),
      λ a. absurd (differ (record {
        formed = well_formed-in_class Segment x h;
        same = ((same_canonical x y ss rs h k each also).1 (ap canonical (sym whole) ∙ a ∙ ap canonical other)).0;
      })),
    ) (bytes_eq-Decides (canonical t) (canonical u))
