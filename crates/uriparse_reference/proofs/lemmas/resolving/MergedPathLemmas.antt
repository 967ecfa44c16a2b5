-- The text of merged paths is that of the merged list of segments.
use Rattle.std.proofs.Common.{◌≡◌, ℕ, ◌<◌, ◌≤◌, Bool, true, false, ◌&&◌, ◌||◌, not, cond, List, [], ◌∷◌, ◌++◌, length, drop, refl, sym}
use Rattle.std.proofs.Common.{ap, ◌∙◌, arith, append_assoc, length-append}
use Rattle.std.specs.List.{list_all, list_any, slice_split, join_with_byte}
use Rattle.std.proofs.lemmas.Bool.{false≢true, and_parts}
use Rattle.std.proofs.lemmas.List.Folds.{list_all-append}
use Rattle.uriparse_text.specs.Bytes.{slash}
use Rattle.uriparse_text.specs.Segment.{is_segment}
use Rattle.uriparse_path.specs.Path.{PathParts, IsListed, max_segments, root, text, is_slash, is_rooted, unrooted, pieces, spelled, starts_with_empty_segment, respelled}
use Rattle.uriparse_path.specs.Merge.{merged}
use Rattle.uriparse_path.specs.Dots.{LacksSlash, all_but_last}
use Rattle.uriparse_path.proofs.lemmas.text.SplitLemmas.{joined-following}
use Rattle.uriparse_path.proofs.lemmas.text.PathTextLemmas.{lacks_slash, pieces-segments, rooted-relative}
use Rattle.uriparse_path.proofs.lemmas.dots.DotSegmentLemmas.{has-lacks}
use Rattle.uriparse_path.proofs.lemmas.normal.RelativeLengthLemmas.{pushed}
use Rattle.uriparse_path.proofs.lemmas.merge.MergedPathLemmas.{some_before, merged_each, merged_hides, listed_merged}
use Rattle.uriparse_path.proofs.lemmas.merge.MergedNormalFormLemmas.{all_but_last_push}
use Rattle.uriparse_reference.specs.Target.{through_last_slash}
use Rattle.uriparse_reference.proofs.lemmas.edits.PathRuleLemmas.{Fits, make, formed_shown, absolute_formed}

-- ---- a merged text is that of merged segments

pub some_slash : (s u : List ℕ) → list_any is_slash (s ++ slash ∷ u) ≡ true
some_slash [] u = refl
some_slash (b ∷ s) u = by_byte (is_slash b) (some_slash s u)
  where
    by_byte : (v : Bool) → list_any is_slash (s ++ slash ∷ u) ≡ true → (v || list_any is_slash (s ++ slash ∷ u)) ≡ true
    by_byte true h = refl
    by_byte false h = h

pub directory_after : (s u : List ℕ) → through_last_slash (s ++ slash ∷ u) ≡ s ++ slash ∷ through_last_slash u
directory_after [] u = refl
directory_after (b ∷ s) u = ap (λ v. cond v (b ∷ through_last_slash (s ++ slash ∷ u)) []) (some_slash (b ∷ s) u) ∙ ap (λ w. b ∷ w) (directory_after s u)

pub directory_none : (s : List ℕ) → LacksSlash s → through_last_slash s ≡ []
directory_none [] h = refl
directory_none (b ∷ s) h = ap (λ v. cond v (b ∷ through_last_slash s) []) (has-lacks slash (b ∷ s) ∙ ap not h)

pub joined_cons : (s : List ℕ) (l : List (List ℕ)) → 0 < length l → join_with_byte slash (s ∷ l) ≡ s ++ slash ∷ join_with_byte slash l
joined_cons s [] h = absurd (omega arith)
joined_cons s (r ∷ l) h = joined-following s (r ∷ l) ∙ ap (λ u. s ++ slash ∷ u) (sym (joined-following r l))

pub joined_one : (s : List ℕ) → join_with_byte slash (s ∷ []) ≡ s
joined_one s = refl

pub some_pushed : (front : List (List ℕ)) (y : List ℕ) → 0 < length (front ++ y ∷ [])
some_pushed front y = omega (arith, length-append front (y ∷ []))

pub merged_joined : (front : List (List ℕ)) (y : List ℕ) (r : List (List ℕ)) → LacksSlash y → 0 < length r
    → through_last_slash (join_with_byte slash (front ++ y ∷ [])) ++ join_with_byte slash r ≡ join_with_byte slash (front ++ r)
merged_joined [] y r h n = ap (λ u. u ++ join_with_byte slash r) (directory_none y h)
merged_joined (s ∷ front) y r h n =
    ap (λ u. through_last_slash u ++ join_with_byte slash r) (joined_cons s (front ++ y ∷ []) (some_pushed front y))
    ∙ ap (λ u. u ++ join_with_byte slash r) (directory_after s (join_with_byte slash (front ++ y ∷ [])))
    ∙ append_assoc s (slash ∷ through_last_slash (join_with_byte slash (front ++ y ∷ []))) (join_with_byte slash r)
    ∙ ap (λ u. s ++ slash ∷ u) (merged_joined front y r h n)
    ∙ sym (joined_cons s (front ++ r) (some_before front r n))

pub last_segment : (front : List (List ℕ)) (y : List ℕ) → list_all is_segment (front ++ y ∷ []) ≡ true → is_segment y ≡ true
last_segment front y h =
    (and_parts (is_segment y) true (and_parts (list_all is_segment front) (list_all is_segment (y ∷ [])) (sym (list_all-append is_segment front (y ∷ []))
    ∙ h)).1).0

pub front_segments : (front : List (List ℕ)) (y : List ℕ) → list_all is_segment (front ++ y ∷ []) ≡ true → list_all is_segment front ≡ true
front_segments front y h = (and_parts (list_all is_segment front) (list_all is_segment (y ∷ [])) (sym (list_all-append is_segment front (y ∷ [])) ∙ h)).0

pub directory_rooted : (a : Bool) (t u : List ℕ) → through_last_slash (root a ++ t) ++ u ≡ root a ++ (through_last_slash t ++ u)
directory_rooted true t u = refl
directory_rooted false t u = refl

pub merged_text : (p q : PathParts) → IsListed p.segments → IsListed q.segments → q.absolute ≡ false → through_last_slash (text p) ++ text q ≡ text (merged p q)
merged_text p q is js h = by_list p.segments is ∙ refl
  where
    relative_text : (a : Bool) (l : List (List ℕ)) → a ≡ false → text (make a l) ≡ join_with_byte slash l
    relative_text true l e = absurd (false≢true (sym e))
    relative_text false l e = refl

    by_list : (l : List (List ℕ)) → IsListed l
        → through_last_slash (root p.absolute ++ join_with_byte slash l) ++ text q ≡ root p.absolute ++ join_with_byte slash (all_but_last l ++ q.segments)
    by_list [] is = absurd (omega (arith, is.some))
    by_list (s ∷ l) is =
        let cut = pushed s l in
        directory_rooted p.absolute (join_with_byte slash (s ∷ l)) (text q)
        ∙ ap (λ u. root p.absolute ++ (through_last_slash (join_with_byte slash (s ∷ l)) ++ u)) (relative_text q.absolute q.segments h)
        ∙ ap (λ u. root p.absolute ++ (through_last_slash (join_with_byte slash u) ++ join_with_byte slash q.segments)) cut.whole
        ∙ ap (λ u. root p.absolute ++ u) (merged_joined cut.front cut.last q.segments
        (lacks_slash cut.last (last_segment cut.front cut.last (sym (ap (list_all is_segment) cut.whole) ∙ is.each))) js.some)
        ∙ ap (λ u. root p.absolute ++ join_with_byte slash (u ++ q.segments)) (sym (ap all_but_last cut.whole ∙ all_but_last_push cut.front cut.last))

-- the pieces of joined segments, if their text hides no leading slash; there may be too many of them
pub pieces_text : (p : PathParts) → 0 < length p.segments → list_all is_segment p.segments ≡ true → (p.absolute ≡ false → starts_with_empty_segment p.segments ≡ false)
    → spelled (text p) ≡ p
pieces_text p some each f = by_shape p.absolute p.segments some each f
  where
    unrooted_same : (t : List ℕ) → is_rooted t ≡ false → unrooted t ≡ t
    unrooted_same [] h = refl
    unrooted_same (b ∷ t) h = ap (λ v. cond v t (b ∷ t)) h

    by_shape : (a : Bool) (l : List (List ℕ)) → 0 < length l → list_all is_segment l ≡ true → (a ≡ false → starts_with_empty_segment l ≡ false)
        → spelled (text (make a l)) ≡ make a l
    by_shape a [] some each f = absurd (omega arith)
    by_shape true (s ∷ l) some each f = ap (λ m. make true m) (pieces-segments s l each)
    by_shape false (s ∷ l) some each f =
        let no : is_rooted (join_with_byte slash (s ∷ l)) ≡ false = rooted-relative s l (and_parts (is_segment s) (list_all is_segment l) each).0 (f refl) in
        ap (λ v. make v (pieces (join_with_byte slash (s ∷ l)))) no
        ∙ ap (λ u. make false (slice_split is_slash u)) (unrooted_same (join_with_byte slash (s ∷ l)) no)
        ∙ ap (λ m. make false m) (pieces-segments s l each)

-- ---- the case of merged paths

-- a reference's path that is merged
pub record IsFollowing (q : PathParts) : Type 0 where
  pub listed : IsListed q.segments
  pub flag : q.absolute ≡ false
  pub shown : starts_with_empty_segment q.segments ≡ false

pub merged_spelled : (v : Bool) (p q : PathParts) → Fits v p → IsFollowing q → spelled (through_last_slash (text p) ++ text q) ≡ merged p q
merged_spelled v p q is js =
    ap spelled (merged_text p q is.listed js.listed js.flag)
    ∙ pieces_text (merged p q) (some_before (all_but_last p.segments) q.segments js.listed.some) (merged_each p q is.listed js.listed)
    (λ h. merged_hides p.segments q.segments (formed_shown p is.formed h) js.shown)

-- within the limit it fits as the base's does
pub fits_merged : (v : Bool) (p q : PathParts) → Fits v p → IsFollowing q → length (merged p q).segments ≤ max_segments → Fits v (merged p q)
fits_merged v p q is js short = record {
  listed = listed_merged p q is.listed js.listed short;
  formed = by_flag p.absolute refl;
  rooted = is.rooted;
  shown = λ h. merged_hides p.segments q.segments (is.shown h) js.shown;
}
  where
    by_flag : (a : Bool) → p.absolute ≡ a → respelled (merged p q) ≡ merged p q
    by_flag true e = absolute_formed (merged p q) e
    by_flag false e = ap (λ w. cond w (make true (drop 1 (merged p q).segments)) (merged p q)) (hidden e)
      where
        and_no : (a : Bool) → (a && false) ≡ false
        and_no true = refl
        and_no false = refl

        hidden : p.absolute ≡ false → (not (merged p q).absolute && starts_with_empty_segment (merged p q).segments) ≡ false
        hidden e = ap (λ w. not p.absolute && w) (merged_hides p.segments q.segments (formed_shown p is.formed e) js.shown) ∙ and_no (not p.absolute)
