-- The directory of a base, from a path without its last segment.
use Rattle.std.proofs.Common.{◌≡◌, ℕ, zero, suc, ◌-◌, ◌^◌, ◌<◌, ◌≤◌, Bool, true, false, cond, not, List, [], ◌∷◌, ◌++◌, length, length-append, map, take, refl, sym, ap, subst, ◌∙◌, append_assoc, append-nil, arith, ◌||◌, Some}
use Rattle.std.specs.Prelude.{◌&&◌, min}
use Rattle.std.specs.List.{join_with_byte}
use Rattle.std.proofs.lemmas.Bool.{and_from, and_parts, cond-false, false≢true, or_parts}
use Rattle.std.proofs.lemmas.List.{map-append}
use Rattle.std.proofs.lemmas.List.Folds.{list_all-append}
use Rattle.std.proofs.Math.Seq.{take-append_seam}
use Rattle.uriparse_text.specs.Bytes.{slash}
use Rattle.uriparse_text.specs.Canonical.{canonical}
use Rattle.uriparse_text.specs.Ends.{EndsWith}
use Rattle.uriparse_text.specs.Segment.{is_segment}
use Rattle.uriparse_text.proofs.lemmas.canonical.DotLemmas.{canonical-nil, empty_no_dot, empty_segment}
use Rattle.uriparse_path.specs.Dots.{all_but_last, is_dot_segment, is_double_dot, is_single_dot}
use Rattle.uriparse_path.specs.Normal.{pnormal}
use Rattle.uriparse_path.specs.Path.{IsListed, IsPath, PathParts, has_hidden_root, is_rooted, pieces, root, spelled, starts_with_empty_segment, text}
use Rattle.uriparse_path.specs.Relative.{is_last}
use Rattle.uriparse_path.specs.Remaining.{Remaining, nothing, process_all, process_one, process_plain, remaining_of}
use Rattle.uriparse_path.specs.Within.{between_slashes, led, normal_left}
use Rattle.uriparse_path.proofs.lemmas.left.BackwardLemmas.{process_all-append}
use Rattle.uriparse_path.proofs.lemmas.left.PathWithinLemmas.{left-normal}
use Rattle.uriparse_path.proofs.lemmas.merge.MergedNormalFormLemmas.{all_but_last_push}
use Rattle.uriparse_path.proofs.lemmas.normal.NormalFormLemmas.{listed_pnormal}
use Rattle.uriparse_path.proofs.lemmas.normal.RelativeLengthLemmas.{last_push, pushed}
use Rattle.uriparse_path.proofs.lemmas.text.PathTextLemmas.{spelled-text, text-spelled}
use Rattle.uriparse.specs.PlaceKey.{directory_of, directory_prefix}
use Rattle.uriparse.specs.SortKey.{end, ended}
use Rattle.uriparse.proofs.lemmas.PlacePathLemmas.{joined_after, joined_text, slashed, some_led}

-- ---- what is left of a path but for its last segment doesn't depend on that segment

-- what is left of two paths that differ in their last segments x and y
record IsAlike (x y : List ℕ) (l m : Remaining) : Type 0 where
  front : List (List ℕ)
  left : l.kept ≡ front ++ x ∷ []
  right : m.kept ≡ front ++ y ∷ []
  dots : l.double_dots ≡ m.double_dots
  removed : l.removed ≡ m.removed

one : Bool → Bool → List ℕ → Remaining → Remaining
one v w s l = cond v l (cond w (record { double_dots = suc l.double_dots; kept = l.kept; removed = l.removed }) (process_plain s l.double_dots l))

plain_alike : (s x y : List ℕ) (i j : ℕ) (l m : Remaining) → i ≡ j → IsAlike x y l m → IsAlike x y (process_plain s i l) (process_plain s j m)
plain_alike s x y zero zero l m e is =
    record { front = s ∷ is.front; left = ap (λ k. s ∷ k) is.left; right = ap (λ k. s ∷ k) is.right; dots = refl; removed = refl }
plain_alike s x y zero (suc j) l m e is = absurd (omega (arith, e))
plain_alike s x y (suc i) zero l m e is = absurd (omega (arith, e))
plain_alike s x y (suc i) (suc j) l m e is = record { front = is.front; left = is.left; right = is.right; dots = omega (arith, e); removed = refl }

one_alike : (v w : Bool) (s x y : List ℕ) (l m : Remaining) → IsAlike x y l m → IsAlike x y (one v w s l) (one v w s m)
unfolding one
one_alike true w s x y l m is = is
one_alike false true s x y l m is = record { front = is.front; left = is.left; right = is.right; dots = ap suc is.dots; removed = is.removed }
one_alike false false s x y l m is = plain_alike s x y l.double_dots m.double_dots l m is.dots is

all_alike : (ss : List (List ℕ)) (x y : List ℕ) (l m : Remaining) → IsAlike x y l m → IsAlike x y (process_all ss l) (process_all ss m)
unfolding one
all_alike [] x y l m is = is
all_alike (s ∷ ss) x y l m is =
    one_alike (is_single_dot s) (is_double_dot s) s x y (process_all ss l) (process_all ss m) (all_alike ss x y l m is)

last_alone : (x : List ℕ) → is_dot_segment x ≡ false → process_one x nothing ≡ record { double_dots = 0; kept = x ∷ []; removed = false }
last_alone x h = by_kind (is_single_dot x) (is_double_dot x) (or_parts (is_single_dot x) (is_double_dot x) h)
  where
    alone : Remaining
    alone = record { double_dots = 0; kept = x ∷ []; removed = false }

    by_kind : (v w : Bool) → (v ≡ false) × (w ≡ false)
        → cond v nothing (cond w (record { double_dots = 1; kept = []; removed = false }) (process_plain x 0 nothing)) ≡ record { double_dots = 0; kept = x ∷ []; removed = false }
    by_kind true w e = absurd (false≢true (sym e.0))
    by_kind false true e = absurd (false≢true (sym e.1))
    by_kind false false e = refl

left_alike : (front : List (List ℕ)) (x y : List ℕ) → is_dot_segment x ≡ false → is_dot_segment y ≡ false
    → IsAlike x y (remaining_of (front ++ x ∷ [])) (remaining_of (front ++ y ∷ []))
left_alike front x y h k =
    subst (λ l. IsAlike x y (remaining_of (front ++ x ∷ [])) l)
    (sym (process_all-append front (y ∷ []) nothing ∙ ap (process_all front) (last_alone y k)))
    (subst (λ l. IsAlike x y l (process_all front (record { double_dots = 0; kept = y ∷ []; removed = false })))
    (sym (process_all-append front (x ∷ []) nothing ∙ ap (process_all front) (last_alone x h)))
    (all_alike front x y _ _ (record { front = []; left = refl; right = refl; dots = refl; removed = refl })))

-- ---- lists that end with a segment

led-push : (v : Bool) (ss : List (List ℕ)) (x : List ℕ) → led v (ss ++ x ∷ []) ≡ led v ss ++ x ∷ []
led-push true ss x = refl
led-push false ss x = refl

-- the directory of segments that end with any one
front_of_push : (ss : List (List ℕ)) (x : List ℕ) → all_but_last (map canonical (ss ++ x ∷ [])) ≡ map canonical ss
front_of_push ss x = ap all_but_last (map-append canonical ss (x ∷ [])) ∙ all_but_last_push (map canonical ss) (canonical x)

-- the text of segments that end with an empty one
text_of_push : (ss : List (List ℕ)) → join_with_byte slash (map canonical (ss ++ [] ∷ [])) ≡ slashed (map canonical ss)
text_of_push ss =
    ap (join_with_byte slash) (map-append canonical ss ([] ∷ []) ∙ ap (λ x. map canonical ss ++ x ∷ []) canonical-nil)
    ∙ joined_after (map canonical ss) ([] ∷ []) (omega arith)
    ∙ append-nil (slashed (map canonical ss))

starts_push : (front : List (List ℕ)) (x y : List ℕ) → starts_with_empty_segment (front ++ x ∷ []) ≡ starts_with_empty_segment (front ++ y ∷ [])
starts_push [] [] [] = refl
starts_push [] [] (b ∷ y) = refl
starts_push [] (a ∷ x) [] = refl
starts_push [] (a ∷ x) (b ∷ y) = refl
starts_push ([] ∷ []) x y = refl
starts_push ([] ∷ s ∷ front) x y = refl
starts_push ((b ∷ r) ∷ front) x y = refl

-- ---- a path without its last segment

-- the last of some segments, and those before it
pub pushed_any : (ss : List (List ℕ)) → IsListed ss → (front : List (List ℕ)) × (last : List ℕ) × (ss ≡ front ++ last ∷ [])
pushed_any [] is = absurd (omega (arith, is.some))
pushed_any (s ∷ ss) is = let cut = pushed s ss in (cut.front, cut.last, cut.whole)

directory_listed : (front : List (List ℕ)) (last : List ℕ) → IsListed (front ++ last ∷ []) → IsListed (front ++ [] ∷ [])
directory_listed front last is =
    let size = length-append front (last ∷ []) in
    let same = length-append front ([] ∷ []) in
    let each = and_parts _ _ (sym (list_all-append is_segment front (last ∷ [])) ∙ is.each) in
    record {
      some = omega (arith, same);
      short = omega (arith, size, same, is.short);
      each = list_all-append is_segment front ([] ∷ []) ∙ and_from _ _ each.0 (and_from (is_segment []) _ empty_segment refl);
    }

directory_shown : (a : Bool) (front : List (List ℕ)) (last : List ℕ) → has_hidden_root (record { absolute = a; segments = front ++ last ∷ [] }) ≡ false
    → has_hidden_root (record { absolute = a; segments = front ++ [] ∷ [] }) ≡ false
directory_shown a front last h = ap (λ v. not a && v) (starts_push front [] last) ∙ h

without_last : (p : PathParts) (front : List (List ℕ)) (last : List ℕ) → p.segments ≡ front ++ last ∷ [] → is_dot_segment last ≡ false
    → directory_of p ≡ record { absolute = p.absolute; segments = front ++ [] ∷ [] }
without_last p front last e h =
    cond-false (is_last is_dot_segment p.segments) _ _ (ap (is_last is_dot_segment) e ∙ last_push is_dot_segment front last ∙ h)
    ∙ ap (λ ss. record { absolute = p.absolute; segments = ss ++ [] ∷ [] }) (ap all_but_last e ∙ all_but_last_push front last)

with_last : (p : PathParts) (front : List (List ℕ)) (last : List ℕ) → p.segments ≡ front ++ last ∷ [] → is_dot_segment last ≡ true → directory_of p ≡ p
with_last p front last e h =
    ap (λ v. cond v p (record { absolute = p.absolute; segments = all_but_last p.segments ++ [] ∷ [] }))
    (ap (is_last is_dot_segment) e ∙ last_push is_dot_segment front last ∙ h)

-- the whole path, if it ends in a dot segment
pub directory_whole : (t last : List ℕ) (front : List (List ℕ)) → pieces t ≡ front ++ last ∷ [] → is_dot_segment last ≡ true → spelled t ≡ directory_of (spelled t)
directory_whole t last front e h = sym (with_last (spelled t) front last e h)

-- a text's last segment, and what precedes it
text_of_pieces : (t last : List ℕ) (front : List (List ℕ)) → pieces t ≡ front ++ last ∷ [] → t ≡ (root (is_rooted t) ++ slashed front) ++ last
text_of_pieces t last front e =
    sym (text-spelled t) ∙ ap (λ ss. root (is_rooted t) ++ join_with_byte slash ss) e
    ∙ ap (λ u. root (is_rooted t) ++ u) (joined_after front (last ∷ []) (omega arith))
    ∙ sym (append_assoc (root (is_rooted t)) (slashed front) last)

pub last_fits : (t last : List ℕ) (front : List (List ℕ)) → pieces t ≡ front ++ last ∷ [] → length last ≤ length t
last_fits t last front e =
    let sizes = ap length (text_of_pieces t last front e) ∙ length-append (root (is_rooted t) ++ slashed front) last in omega (arith, sizes)

-- the path through its last slash
pub directory_cut : (t last : List ℕ) (front : List (List ℕ)) → IsPath t → has_hidden_root (spelled t) ≡ false → pieces t ≡ front ++ last ∷ []
    → is_dot_segment last ≡ false → spelled (take (length t - length last) t) ≡ directory_of (spelled t)
directory_cut t last front is shown e h =
    ap spelled cut ∙ spelled-text q listed ∙ cond-false (has_hidden_root q) _ _ hidden ∙ sym (without_last (spelled t) front last e h)
  where
    a : Bool
    a = is_rooted t

    q : PathParts
    q = record { absolute = is_rooted t; segments = front ++ [] ∷ [] }

    listed : IsListed (front ++ [] ∷ [])
    listed = directory_listed front last (subst IsListed e is)

    hidden : has_hidden_root q ≡ false
    hidden = directory_shown (is_rooted t) front last (ap (λ ss. has_hidden_root (record { absolute = is_rooted t; segments = ss })) (sym e) ∙ shown)

    whole : t ≡ (root (is_rooted t) ++ slashed front) ++ last
    whole = text_of_pieces t last front e

    cut : take (length t - length last) t ≡ text q
    cut =
        let d = root (is_rooted t) ++ slashed front in
        let size : length t - length last ≡ length d = omega (arith, ap length whole, length-append d last) in
        ap (λ n. take n t) size ∙ ap (take (length d)) whole ∙ take-append_seam d last
        ∙ ap (λ u. root (is_rooted t) ++ u) (sym (joined_after front ([] ∷ []) (omega arith) ∙ append-nil (slashed front)))

pub directory_path : (t u : List ℕ) → IsPath t → spelled u ≡ directory_of (spelled t) → IsPath u
directory_path t u is e = subst (λ (p : PathParts). IsListed p.segments) (sym e) by_push
  where
    by_push : IsListed (directory_of (spelled t)).segments
    by_push = by_segments (pieces t) is
      where
        by_dot : (ss : List (List ℕ)) (v : Bool) → IsListed ss
            → IsListed (cond {A = PathParts} v (record { absolute = is_rooted t; segments = ss }) (record { absolute = is_rooted t; segments = all_but_last ss ++ [] ∷ [] })).segments
        by_dot ss true k = k
        by_dot ss false k =
            let s = pushed_any ss k in
            subst (λ l. IsListed (l ++ [] ∷ [])) (sym (ap all_but_last s.2 ∙ all_but_last_push s.0 s.1)) (directory_listed s.0 s.1 (subst IsListed s.2 k))

        by_segments : (ss : List (List ℕ)) → IsListed ss
            → IsListed (cond {A = PathParts} (is_last is_dot_segment ss) (record { absolute = is_rooted t; segments = ss }) (record { absolute = is_rooted t; segments = all_but_last ss ++ [] ∷ [] })).segments
        by_segments ss k = by_dot ss (is_last is_dot_segment ss) k

-- ---- its normal form

-- the normal form of a base's directory is the directory of the base's normal form
pub directory_text : (p : PathParts) → IsListed p.segments → has_hidden_root p ≡ false
    → text (pnormal (directory_of p) false) ≡ slashed (all_but_last (between_slashes (pnormal p false)))
directory_text p is shown = by_last (pushed_any p.segments is)
  where
    by_dot : (front : List (List ℕ)) (last : List ℕ) → p.segments ≡ front ++ last ∷ [] → is_dot_segment last ≡ true
        → text (pnormal (directory_of p) false) ≡ slashed (all_but_last (between_slashes (pnormal p false)))
    by_dot front last e h =
        let v = p.absolute || (remaining_of p.segments).removed in
        let kept = (remaining_of p.segments).kept in
        let bs : between_slashes (pnormal p false) ≡ map canonical (led v kept ++ [] ∷ []) =
        sym (left-normal p.absolute p.segments is shown)
        ∙ ap (λ w. map canonical (normal_left p.absolute w (Some p.segments))) (ap (is_last is_dot_segment) e ∙ last_push is_dot_segment front last ∙ h)
        ∙ ap (map canonical) (led-push v kept []) in
        ap (λ q. text (pnormal q false)) (with_last p front last e h)
        ∙ joined_text (pnormal p false) (listed_pnormal p false is).some
        ∙ ap (join_with_byte slash) bs
        ∙ text_of_push (led v kept)
        ∙ sym (ap (λ l. slashed (all_but_last l)) bs ∙ ap slashed (front_of_push (led v kept) []))

    by_plain : (front : List (List ℕ)) (last : List ℕ) → p.segments ≡ front ++ last ∷ [] → is_dot_segment last ≡ false
        → text (pnormal (directory_of p) false) ≡ slashed (all_but_last (between_slashes (pnormal p false)))
    by_plain front last e h =
        let q : PathParts = record { absolute = p.absolute; segments = front ++ [] ∷ [] } in
        let listed = directory_listed front last (subst IsListed e is) in
        let hidden = directory_shown p.absolute front last (ap (λ ss. has_hidden_root (record { absolute = p.absolute; segments = ss })) (sym e) ∙ shown) in
        let alike = left_alike front last [] h empty_no_dot in
        let v = p.absolute || (remaining_of (front ++ last ∷ [])).removed in
        let bs : between_slashes (pnormal p false) ≡ map canonical (led v alike.front ++ last ∷ []) =
        sym (left-normal p.absolute p.segments is shown)
        ∙ ap (λ ss. map canonical (normal_left p.absolute (is_last is_dot_segment ss) (Some ss))) e
        ∙ ap (λ w. map canonical (normal_left p.absolute w (Some (front ++ last ∷ [])))) (last_push is_dot_segment front last ∙ h)
        ∙ ap (λ k. map canonical (led v k)) alike.left
        ∙ ap (map canonical) (led-push v alike.front last) in
        let cs : between_slashes (pnormal q false) ≡ map canonical (led v alike.front ++ [] ∷ []) =
        sym (left-normal p.absolute (front ++ [] ∷ []) listed hidden)
        ∙ ap (λ w. map canonical (normal_left p.absolute w (Some (front ++ [] ∷ [])))) (last_push is_dot_segment front [] ∙ empty_no_dot)
        ∙ ap (λ w. map canonical (led (p.absolute || w) (remaining_of (front ++ [] ∷ [])).kept)) (sym alike.removed)
        ∙ ap (λ k. map canonical (led v k)) alike.right
        ∙ ap (map canonical) (led-push v alike.front []) in
        ap (λ r. text (pnormal r false)) (without_last p front last e h)
        ∙ joined_text (pnormal q false) (listed_pnormal q false listed).some
        ∙ ap (join_with_byte slash) cs
        ∙ text_of_push (led v alike.front)
        ∙ sym (ap (λ l. slashed (all_but_last l)) bs ∙ ap slashed (front_of_push (led v alike.front) last))

    by_last : (front : List (List ℕ)) × (last : List ℕ) × (p.segments ≡ front ++ last ∷ [])
        → text (pnormal (directory_of p) false) ≡ slashed (all_but_last (between_slashes (pnormal p false)))
    by_last (front, last, e) = by_kind (is_dot_segment last) refl
      where
        by_kind : (v : Bool) → is_dot_segment last ≡ v → text (pnormal (directory_of p) false) ≡ slashed (all_but_last (between_slashes (pnormal p false)))
        by_kind true h = by_dot front last e h
        by_kind false h = by_plain front last e h

-- ---- a base with a slash, and one without

no_text : (b c : List ℕ) → ((b ++ slash ∷ []) ++ c) ≡ [] → ⊥
no_text b c e =
    let sizes = ap length e in
    let one = length-append (b ++ slash ∷ []) c in
    let two = length-append b (slash ∷ []) in
    absurd (omega (arith, sizes, one, two))

pub directory_alone : (bs : List (List ℕ)) → 0 < length bs → slashed (all_but_last bs) ≡ [] → directory_prefix bs ≡ ended (join_with_byte slash bs)
directory_alone [] some e = absurd (omega (arith, some))
directory_alone (b ∷ []) some e = refl
directory_alone (b ∷ c ∷ bs) some e = absurd (no_text b (slashed (all_but_last (c ∷ bs))) e)

pub directory_more : (bs : List (List ℕ)) → 0 < length bs → (slashed (all_but_last bs) ≡ [] → ⊥) → directory_prefix bs ≡ slashed (all_but_last bs)
directory_more [] some n = absurd (omega (arith, some))
directory_more (b ∷ []) some n = absurd (n refl)
directory_more (b ∷ c ∷ bs) some n = refl

pub no_length : (t : List ℕ) (n : ℕ) → n ≡ min (length t) (2 ^ 64 - 1) → n ≡ 0 → t ≡ []
no_length [] n e h = refl
no_length (b ∷ t) n e h = absurd (grind (arith))

pub some_length : (t : List ℕ) (n : ℕ) → n ≡ min (length t) (2 ^ 64 - 1) → (n ≡ 0 → ⊥) → t ≡ [] → ⊥
some_length t n e h k = h (e ∙ ap (λ u. min (length u) (2 ^ 64 - 1)) k)

-- ---- what is put

-- the path's normal form without a "." and the text that it is put in front of
pub puts_alone : (p : PathParts) (out : List ℕ) (n : ℕ) → IsListed p.segments → has_hidden_root p ≡ false → text (pnormal (directory_of p) false) ≡ []
    → EndsWith out n (text (pnormal p false) ++ (end ∷ [])) → EndsWith out n (directory_prefix (between_slashes (pnormal p false)))
puts_alone p out n is shown none h =
    let bs = between_slashes (pnormal p false) in
    let some = some_led (pnormal p false).absolute (pnormal p false).segments (listed_pnormal p false is).some in
    subst (EndsWith out n)
    (ap ended (joined_text (pnormal p false) (listed_pnormal p false is).some)
    ∙ sym (directory_alone bs some (sym (directory_text p is shown) ∙ none))) h

pub puts_directory : (p : PathParts) (out : List ℕ) (n : ℕ) → IsListed p.segments → has_hidden_root p ≡ false
    → (text (pnormal (directory_of p) false) ≡ [] → ⊥) → EndsWith out n (text (pnormal (directory_of p) false))
    → EndsWith out n (directory_prefix (between_slashes (pnormal p false)))
puts_directory p out n is shown more h =
    let bs = between_slashes (pnormal p false) in
    let some = some_led (pnormal p false).absolute (pnormal p false).segments (listed_pnormal p false is).some in
    let same = directory_text p is shown in
    subst (EndsWith out n) (same ∙ sym (directory_more bs some (λ e. more (same ∙ e)))) h
