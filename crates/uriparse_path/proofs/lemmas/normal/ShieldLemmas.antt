-- Paths without their dot segments or in normal form, with a leading "." if they would begin with two slashes.
use Rattle.std.proofs.Common.{◌≡◌, ℕ, ◌+◌, ◌<◌, ◌≤◌, Bool, true, false, ◌&&◌, ◌||◌, not, cond, List, [], ◌∷◌, length, take, drop, refl, sym, ap, ◌∙◌, subst}
use Rattle.std.proofs.Common.{arith}
use Rattle.std.specs.List.{list_all}
use Rattle.std.proofs.lemmas.Bool.{and_parts, not-true}
use Rattle.std.proofs.lemmas.List.{length-take-le}
use Rattle.uriparse_text.specs.Bytes.{dot}
use Rattle.uriparse_path.specs.Path.{PathParts, IsListed, IsCounted, text, spelled, starts_with_empty_segment, respelled}
use Rattle.uriparse_path.specs.Dots.{has_dot_segment, replay, replayed, rooted_after, undot, without_dots}
use Rattle.uriparse_path.specs.Edits.{dotted, with_dot_prefix, with_dot_prefix_unless}
use Rattle.uriparse_path.specs.Relative.{filled}
use Rattle.uriparse_path.specs.Normal.{stays_relative, pnormal, is_normal, is_canonical}
use Rattle.uriparse_path.specs.declared.path.counts.Counts.{Counts}
use Rattle.uriparse_path.specs.Counts.{counts}
use Rattle.uriparse_path.proofs.lemmas.text.PathTextLemmas.{spelled-text}
use Rattle.uriparse_path.proofs.lemmas.normal.RelativeFormLemmas.{hides_relative, all_canonical_same}
use Rattle.uriparse_path.proofs.lemmas.normal.NormalFormLemmas.{listed_replayed, listed_pnormal, pnormal_relative, normal_kept, normal_iff, pnormal_twice, no_dots_left, undot_path}
use Rattle.uriparse_path.proofs.lemmas.normal.SpellingCommutesLemmas.{pnormal_without_dots}
use Rattle.uriparse_path.proofs.lemmas.text.BeginningLemmas.{two_slashes-text}
use Rattle.uriparse_path.proofs.lemmas.merge.MergedNormalFormLemmas.{undotted, listed_undotted, shorter}

abbrev make : Bool → List (List ℕ) → PathParts
make a l = record { absolute = a; segments = l }

-- two slashes begin the text of the path with these segments
abbrev pub twice : PathParts → Bool
twice q = starts_with_empty_segment q.segments && (q.absolute || starts_with_empty_segment (drop 1 q.segments))

-- the list with a leading "." or not
abbrev pub following : Bool → List (List ℕ) → List (List ℕ)
following n l = filled (cond n ((dot ∷ []) ∷ l) l)

filled_some : (l : List (List ℕ)) → 0 < length l → filled l ≡ l
filled_some [] h = absurd (omega arith)
filled_some (s ∷ l) h = refl

pub shield_is : (q : PathParts) → IsListed q.segments → with_dot_prefix q ≡ cond (twice q) (dotted q) q
shield_is q is = ap (λ v. cond v (dotted q) q) (sym (two_slashes-text q is))

not_twice : (q : PathParts) → starts_with_empty_segment q.segments ≡ false → twice q ≡ false
not_twice q h = ap (λ v. v && (q.absolute || starts_with_empty_segment (drop 1 q.segments))) h

-- a path that hides no root stays
pub shown_stays : (v : Bool) (q : PathParts) → IsListed q.segments → (v ≡ false → starts_with_empty_segment q.segments ≡ false) → with_dot_prefix_unless v q ≡ q
shown_stays true q is h = refl
shown_stays false q is h = shield_is q is ∙ ap (λ w. cond w (dotted q) q) (not_twice q (h refl))

-- a normal path is unchanged
pub normal_shielded : (v : Bool) (p : PathParts) (r : Bool) → IsListed p.segments → is_normal p r ≡ true → (v ≡ false → starts_with_empty_segment p.segments ≡ false)
    → p ≡ with_dot_prefix_unless v (pnormal p r)
normal_shielded v p r listed h shown = sym (ap (with_dot_prefix_unless v) (normal_kept p r listed h) ∙ shown_stays v p listed shown)

pub kept_shielded : (v : Bool) (p : PathParts) → IsListed p.segments → has_dot_segment p.segments ≡ false → (v ≡ false → starts_with_empty_segment p.segments ≡ false)
    → p ≡ with_dot_prefix_unless v (without_dots p)
kept_shielded v p is h f = sym (ap (λ w. with_dot_prefix_unless v (cond w (spelled (undot (text p))) p)) h ∙ shown_stays v p is f)

-- ---- what comes out of the pass

hidden_before : (q : PathParts) → starts_with_empty_segment (respelled q).segments ≡ true → starts_with_empty_segment q.segments ≡ true
hidden_before q = by_shape q.absolute q.segments
  where
    by_shape : (a : Bool) (l : List (List ℕ)) → starts_with_empty_segment (respelled (make a l)).segments ≡ true → starts_with_empty_segment l ≡ true
    by_shape true l h = h
    by_shape false [] h = h
    by_shape false ([] ∷ []) h = h
    by_shape false ([] ∷ r ∷ l) h = refl
    by_shape false ((b ∷ s) ∷ l) h = h

pub undotted_is : (p : PathParts) → IsListed p.segments → has_dot_segment p.segments ≡ true → without_dots p ≡ undotted p
undotted_is p is h = ap (λ v. cond v (spelled (undot (text p))) p) h ∙ ap spelled (undot_path p is) ∙ spelled-text (replayed p) (listed_replayed p is)

canonical_left : (p : PathParts) → IsListed p.segments → list_all is_canonical p.segments ≡ true → list_all is_canonical (without_dots p).segments ≡ true
canonical_left p is all =
    let same : without_dots p ≡ pnormal p false =
    ap (λ l. without_dots (make p.absolute l)) (sym (all_canonical_same p.segments all)) ∙ pnormal_without_dots p false is refl in
    let normal : is_normal (pnormal p false) false ≡ true =
    (normal_iff (pnormal p false) false (listed_pnormal p false is)).1 (ap text (pnormal_twice p false is)) in
    ap (λ q. list_all is_canonical q.segments) same ∙ (and_parts (list_all is_canonical (pnormal p false).segments) _ normal).0

-- The pass over the path p left the first `kept` of the list `first`, and of these, as their text spells them, the
-- first `left` of the list `rest`; n says whether a leading "." precedes them.
pub record Pass (v : Bool) (p : PathParts) (rooted : Bool) (kept : ℕ) (first : List (List ℕ)) (absolute : Bool) (left : ℕ) (rest : List (List ℕ))
    (n : Bool) : Type 0 where
  pub listed : IsListed p.segments
  pub dots : has_dot_segment p.segments ≡ true
  pub shown : v ≡ false → starts_with_empty_segment p.segments ≡ false
  pub segments : take kept first ≡ replay [] p.segments
  pub root : rooted ≡ rooted_after p.absolute [] p.segments
  pub within : kept ≤ length first
  pub len : length first ≡ length p.segments
  pub path : make absolute (take left rest) ≡ respelled (make rooted (take kept first))
  pub inside : left ≤ length rest
  pub spare : length rest + kept ≡ length first + left
  pub no_longer : length rest ≤ length first
  pub need : n ≡ (not v && twice (make absolute (take left rest)))

module _ {v : Bool} {p : PathParts} {rooted : Bool} {kept : ℕ} {first : List (List ℕ)} {absolute : Bool} {left : ℕ} {rest : List (List ℕ)} {n : Bool}
    (is : Pass v p rooted kept first absolute left rest n) where
  abbrev pub out : PathParts
  out = make absolute (take left rest)

  came : out ≡ undotted p
  came = is.path ∙ ap (λ l. respelled (make rooted l)) is.segments ∙ ap (λ a. respelled (make a (replay [] p.segments))) is.root

  listed_out : IsListed out.segments
  listed_out = subst (λ q. IsListed q.segments) (sym came) (listed_undotted p is.listed)

  left_is : length out.segments ≡ left
  left_is = length-take-le left rest is.inside

  kept_is : length (replay [] p.segments) ≡ kept
  kept_is = ap length (sym is.segments) ∙ length-take-le kept first is.within

  -- there is room for the "."
  room_for : n ≡ true → left + 1 ≤ length rest
  room_for e =
      let both = and_parts (not v) (twice out) (sym is.need ∙ e) in
      let hides : starts_with_empty_segment out.segments ≡ true = (and_parts (starts_with_empty_segment out.segments) _ both.1).0 in
      let before : starts_with_empty_segment (replay [] p.segments) ≡ true = ap starts_with_empty_segment (sym is.segments)
      ∙ hidden_before (make rooted (take kept first)) (ap (λ q. starts_with_empty_segment q.segments) (sym is.path) ∙ hides) in
      let less = shorter p.segments (is.shown (not-true v both.0)) before in
      omega (arith, less, kept_is, is.spare, is.len)

  pub room_left : length (following n out.segments) ≤ length rest
  room_left = by_need n room_for
    where
      by_need : (w : Bool) → (w ≡ true → left + 1 ≤ length rest) → length (following w out.segments) ≤ length rest
      by_need true f = let k = f refl in omega (arith, k, left_is)
      by_need false f = omega (arith, ap length (filled_some out.segments listed_out.some), left_is, is.inside)

  some_left : 0 < length (following n out.segments)
  some_left = by_need n
    where
      by_need : (w : Bool) → 0 < length (following w out.segments)
      by_need true = omega arith
      by_need false = let k = listed_out.some in omega (arith, ap length (filled_some out.segments k), k)

  pub counted_left : IsCounted (following n out.segments)
  counted_left = let k = is.listed.short in record { some = some_left; short = omega (arith, room_left, k, is.no_longer, is.len) }

  pub passed : make absolute (following n out.segments) ≡ with_dot_prefix_unless v (without_dots p)
  passed = by_need v n is.need ∙ ap (with_dot_prefix_unless v) (came ∙ sym (undotted_is p is.listed is.dots))
    where
      by_need : (w m : Bool) → m ≡ (not w && twice out) → make absolute (following m out.segments) ≡ with_dot_prefix_unless w out
      by_need true m e = ap (λ u. make absolute (following u out.segments)) e ∙ ap (make absolute) (filled_some out.segments listed_out.some)
      by_need false m e = ap (λ u. make absolute (following u out.segments)) e ∙ by_test (twice out) ∙ sym (shield_is out listed_out)
        where
          by_test : (t : Bool) → make absolute (following t out.segments) ≡ cond t (dotted out) out
          by_test true = refl
          by_test false = ap (make absolute) (filled_some out.segments listed_out.some)

  -- what is left of canonical segments is canonical, and has no dot segment except the leading "."
  pub counts_left : (c : Counts) → list_all is_canonical p.segments ≡ true
      → ((ss : List (List ℕ)) → has_dot_segment ss ≡ false → list_all is_canonical ss ≡ true → n ≡ false → c ≡ counts ss)
      → ((ss : List (List ℕ)) → has_dot_segment ss ≡ false → list_all is_canonical ss ≡ true → n ≡ true → c ≡ counts ((dot ∷ []) ∷ ss))
      → c ≡ counts (following n out.segments)
  counts_left c all plain dots =
      by_need n (plain out.segments none canonical) (dots out.segments none canonical)
    where
      same : out ≡ without_dots p
      same = came ∙ sym (undotted_is p is.listed is.dots)

      none : has_dot_segment out.segments ≡ false
      none = ap (λ q. has_dot_segment q.segments) same ∙ no_dots_left p is.listed

      canonical : list_all is_canonical out.segments ≡ true
      canonical = ap (λ q. list_all is_canonical q.segments) same ∙ canonical_left p is.listed all

      by_need : (w : Bool) → (w ≡ false → c ≡ counts out.segments) → (w ≡ true → c ≡ counts ((dot ∷ []) ∷ out.segments))
          → c ≡ counts (following w out.segments)
      by_need true f g = g refl
      by_need false f g = f refl ∙ ap counts (sym (filled_some out.segments listed_out.some))

-- ---- normal forms

-- a path that stays relative needs no "." against slashes
pub relative_stays : (v : Bool) (p : PathParts) (r : Bool) → IsListed p.segments → stays_relative p r ≡ true → with_dot_prefix_unless v (pnormal p r) ≡ pnormal p r
relative_stays v p r is e = shown_stays v (pnormal p r) (listed_pnormal p r is) (λ h. ap (λ q. starts_with_empty_segment q.segments) (pnormal_relative p r e)
    ∙ hides_relative p.segments)
