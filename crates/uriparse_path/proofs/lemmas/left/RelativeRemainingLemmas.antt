-- The relative normal form is that of what is left of a path's segments.
use Rattle.std.proofs.Common.{◌≡◌, ℕ, zero, suc, ◌<◌, Bool, true, false, not, cond, List, [], ◌∷◌, ◌++◌, length, map, refl, sym, ap, ◌∙◌, arith, append-nil, append_assoc, ◌&&◌, ◌||◌}
use Rattle.std.specs.Prelude.{reverse}
use Rattle.std.specs.List.{list_all, join_with_byte}
use Rattle.std.proofs.lemmas.Bool.{and_parts, and_from, or_parts}
use Rattle.std.proofs.lemmas.List.{reverse-append, reverse-reverse}
use Rattle.std.proofs.lemmas.List.Folds.{list_all-append}
use Rattle.uriparse_text.specs.declared.internal.backward_buffer.Form.TheVariants.{Canonical}
use Rattle.uriparse_text.specs.Bytes.{dot, slash}
use Rattle.uriparse_text.specs.Canonical.{canonical}
use Rattle.uriparse_text.specs.Segment.{is_segment}
use Rattle.uriparse_path.specs.Path.{is_rooted, starts_with_empty_segment}
use Rattle.uriparse_path.specs.Dots.{is_single_dot, is_double_dot, is_dot_segment, has_dot_segment}
use Rattle.uriparse_path.specs.Relative.{is_last, is_first, has_colon, closed, needs_leading_dot, with_leading_dot, filled, put, put_all, reduced, relative_normal}
use Rattle.uriparse_path.specs.Normal.{is_canonical}
use Rattle.uriparse_path.specs.Remaining.{Remaining, process_plain, remaining_of, with_end, remaining_text, with_parent_steps, climbed, with_double_dots, relative_text}
use Rattle.uriparse_text.proofs.lemmas.canonical.DotLemmas.{double_is, double_of, canonical-dots}
use Rattle.uriparse_path.proofs.lemmas.dots.DotSegmentLemmas.{single-canonical, double-canonical, dot-canonical, no_dot, not_both}
use Rattle.uriparse_path.proofs.lemmas.text.PathTextLemmas.{rooted-relative}
use Rattle.uriparse_path.proofs.lemmas.text.CanonicalTextLemmas.{each-canonical}
use Rattle.uriparse_path.proofs.lemmas.normal.DeletionLemmas.{put_single, put_plain}
use Rattle.uriparse_text.proofs.lemmas.canonical.DotLemmas.{empty_segment}
use Rattle.uriparse_path.proofs.lemmas.normal.RelativeFormLemmas.{canonical_same, all_canonical-canonical, first_colon-canonical}
use Rattle.uriparse_path.proofs.lemmas.normal.RelativeFormLemmas.{each_reduced}
use Rattle.uriparse_path.proofs.lemmas.normal.RelativeLengthLemmas.{closed_double, put_away}
use Rattle.uriparse_path.proofs.lemmas.normal.SpellingCommutesLemmas.{shaped-canonical, last-canonical, push_empty-canonical}
use Rattle.uriparse_path.proofs.lemmas.merge.MergedNormalFormLemmas.{reverse_push, no_dots_walk}
use Rattle.uriparse_path.proofs.lemmas.left.RemainingLemmas.{walk_kept, last_after}
use Rattle.uriparse_path.proofs.lemmas.left.UndottedLemmas.{map_canonical}
use Rattle.uriparse_path.proofs.lemmas.left.BackwardLemmas.{kept_none}

abbrev dots : List ℕ
dots = dot ∷ dot ∷ []

dots_double : is_double_dot dots ≡ true
dots_double = double_of dots canonical-dots

-- ---- canonical segments

abbrev canonical_left : Remaining → Remaining
canonical_left l = record { double_dots = l.double_dots; kept = map canonical l.kept; removed = l.removed }

process_plain-canonical : (s : List ℕ) (n : ℕ) (l : Remaining) → process_plain (canonical s) n (canonical_left l) ≡ canonical_left (process_plain s n l)
process_plain-canonical s zero l = refl
process_plain-canonical s (suc n) l = refl

left-canonical : (ss : List (List ℕ)) → list_all is_segment ss ≡ true → remaining_of (map canonical ss) ≡ canonical_left (remaining_of ss)
left-canonical [] h = refl
left-canonical (s ∷ ss) h =
    let both = and_parts _ _ h in
    rw (single-canonical s both.0, double-canonical s both.0, left-canonical ss both.1) (by_kind (is_single_dot s) (is_double_dot s) (remaining_of ss))
  where
    by_kind : (v w : Bool) (l : Remaining)
        → cond v (canonical_left l) (cond w (record { double_dots = suc l.double_dots; kept = map canonical l.kept; removed = l.removed })
        (process_plain (canonical s) l.double_dots (canonical_left l)))
        ≡ canonical_left (cond v l (cond w (record { double_dots = suc l.double_dots; kept = l.kept; removed = l.removed }) (process_plain s l.double_dots l)))
    by_kind true w l = refl
    by_kind false true l = refl
    by_kind false false l = process_plain-canonical s l.double_dots l

-- what holds of each segment holds of each that is kept
all_kept : (p : List ℕ → Bool) (ss : List (List ℕ)) → list_all p ss ≡ true → list_all p (remaining_of ss).kept ≡ true
all_kept p [] h = refl
all_kept p (s ∷ ss) h =
    let both = and_parts _ _ h in
    by_kind (is_single_dot s) (is_double_dot s) (remaining_of ss) (all_kept p ss both.1) (reach both.0 (remaining_of ss).double_dots (remaining_of ss) (all_kept p ss both.1))
  where
    reach : p s ≡ true → (n : ℕ) (l : Remaining) → list_all p l.kept ≡ true → list_all p (process_plain s n l).kept ≡ true
    reach here zero l k = and_from _ _ here k
    reach here (suc n) l k = k

    by_kind : (v w : Bool) (l : Remaining) → list_all p l.kept ≡ true → list_all p (process_plain s l.double_dots l).kept ≡ true
        → list_all p (cond v l (cond w (record { double_dots = suc l.double_dots; kept = l.kept; removed = l.removed }) (process_plain s l.double_dots l))).kept ≡ true
    by_kind true w l k m = k
    by_kind false true l k m = k
    by_kind false false l k m = m

-- ---- what deletions leave

-- the stack after so many ".."
abbrev add_double_dot : ℕ → List (List ℕ) → List (List ℕ)
add_double_dot zero stack = stack
add_double_dot (suc n) stack = add_double_dot n (put stack dots)

climb_reached : (stack : List (List ℕ)) (s : List ℕ) (n : ℕ) (l : Remaining) → is_dot_segment s ≡ false
    → reverse l.kept ++ add_double_dot n (s ∷ stack) ≡ reverse (process_plain s n l).kept ++ add_double_dot (process_plain s n l).double_dots stack
climb_reached stack s zero l h =
    sym (append_assoc (reverse l.kept) (s ∷ []) stack) ∙ ap (λ u. u ++ stack) (sym (reverse_push s l.kept))
climb_reached stack s (suc n) l h = ap (λ u. reverse l.kept ++ add_double_dot n u) (put_away s stack dots dots_double h)

put_all_left : (stack ss : List (List ℕ)) → list_all is_canonical ss ≡ true
    → put_all stack ss ≡ reverse (remaining_of ss).kept ++ add_double_dot (remaining_of ss).double_dots stack
put_all_left stack [] h = refl
put_all_left stack (s ∷ ss) h =
    let both = and_parts _ _ h in
    by_kind (is_single_dot s) refl (is_double_dot s) refl (remaining_of ss) (λ o. put_all_left o ss both.1)
  where
    by_kind : (v : Bool) → is_single_dot s ≡ v → (w : Bool) → is_double_dot s ≡ w → (l : Remaining)
        → ((o : List (List ℕ)) → put_all o ss ≡ reverse l.kept ++ add_double_dot l.double_dots o)
        → put_all (put stack s) ss
        ≡ reverse (cond v l (cond w (record { double_dots = suc l.double_dots; kept = l.kept; removed = l.removed }) (process_plain s l.double_dots l))).kept
        ++ add_double_dot (cond v l (cond w (record { double_dots = suc l.double_dots; kept = l.kept; removed = l.removed }) (process_plain s l.double_dots l))).double_dots stack
    by_kind true e w f l k = k (put stack s) ∙ ap (λ u. reverse l.kept ++ add_double_dot l.double_dots u) (put_single stack s e)
    by_kind false e true f l k =
        k (put stack s)
        ∙ ap (λ u. reverse l.kept ++ add_double_dot l.double_dots (put stack u)) (sym (canonical_same s (and_parts _ _ h).0) ∙ double_is s f)
    by_kind false e false f l k =
        k (put stack s)
        ∙ ap (λ u. reverse l.kept ++ add_double_dot l.double_dots u) (put_plain stack s (no_dot s e f))
        ∙ climb_reached stack s l.double_dots l (no_dot s e f)

-- as many ".."
abbrev all_dots : ℕ → List (List ℕ)
all_dots zero = []
all_dots (suc n) = dots ∷ all_dots n

put_dots : (n : ℕ) → put (all_dots n) dots ≡ all_dots (suc n)
put_dots zero = rw (not_both dots dots_double) refl
put_dots (suc n) = rw (not_both dots dots_double, dots_double) refl

dots_push : (n : ℕ) → all_dots n ++ dots ∷ [] ≡ all_dots (suc n)
dots_push zero = refl
dots_push (suc n) = ap (λ u. dots ∷ u) (dots_push n)

reverse_dots : (n : ℕ) → reverse (all_dots n) ≡ all_dots n
reverse_dots zero = refl
reverse_dots (suc n) = reverse_push dots (all_dots n) ∙ ap (λ u. u ++ dots ∷ []) (reverse_dots n) ∙ dots_push n

climb_dots : (n k : ℕ) → add_double_dot n (all_dots k) ≡ all_dots n ++ all_dots k
climb_dots zero k = refl
climb_dots (suc n) k =
    ap (add_double_dot n) (put_dots k) ∙ climb_dots n (suc k) ∙ sym (append_assoc (all_dots n) (dots ∷ []) (all_dots k)) ∙ ap (λ u. u ++ all_dots k) (dots_push n)

reduced_left : (ss : List (List ℕ)) → list_all is_canonical ss ≡ true → reduced ss ≡ all_dots (remaining_of ss).double_dots ++ (remaining_of ss).kept
reduced_left ss h =
    ap reverse (put_all_left [] ss h ∙ ap (λ u. reverse (remaining_of ss).kept ++ u) (climb_dots (remaining_of ss).double_dots zero ∙ append-nil (all_dots (remaining_of ss).double_dots)))
    ∙ reverse-append (reverse (remaining_of ss).kept) (all_dots (remaining_of ss).double_dots)
    ∙ ap (λ u. u ++ reverse (reverse (remaining_of ss).kept)) (reverse_dots (remaining_of ss).double_dots)
    ∙ ap (λ u. all_dots (remaining_of ss).double_dots ++ u) (reverse-reverse (remaining_of ss).kept)

-- ---- the end

no_dots_kept : (ss : List (List ℕ)) → has_dot_segment (remaining_of ss).kept ≡ false
no_dots_kept ss = ap has_dot_segment (sym (walk_kept ss)) ∙ no_dots_walk [] ss refl

last_no_dots : (s : List ℕ) (ss : List (List ℕ)) → has_dot_segment (s ∷ ss) ≡ false → is_last is_double_dot (s ∷ ss) ≡ false
last_no_dots s [] h = (or_parts (is_single_dot s) (is_double_dot s) (or_parts (is_dot_segment s) false h).0).1
last_no_dots s (r ∷ ss) h = last_no_dots r ss (or_parts (is_dot_segment s) (has_dot_segment (r ∷ ss)) h).1

closed_is : (v : Bool) (l : List (List ℕ)) → 0 < length l → closed v l ≡ cond (v && not (is_last is_double_dot l)) (l ++ [] ∷ []) l
closed_is v [] h = absurd (omega arith)
closed_is v (s ∷ l) h = refl

some_after : (a : List (List ℕ)) (s : List ℕ) (ss : List (List ℕ)) → 0 < length (a ++ s ∷ ss)
some_after [] s ss = omega arith
some_after (r ∷ a) s ss = omega arith

last_dots : (n : ℕ) → is_last is_double_dot (all_dots (suc n)) ≡ true
last_dots zero = dots_double
last_dots (suc n) = last_dots n

closed_dots : (v : Bool) (n : ℕ) → closed v (all_dots n) ≡ all_dots n
closed_dots v zero = refl
closed_dots v (suc n) = closed_double v (all_dots (suc n)) (last_dots n)

closed_left : (v : Bool) (n : ℕ) (s : List ℕ) (ss : List (List ℕ)) → has_dot_segment (s ∷ ss) ≡ false
    → closed v (all_dots n ++ s ∷ ss) ≡ all_dots n ++ with_end v (s ∷ ss)
closed_left v n s ss h =
    closed_is v (all_dots n ++ s ∷ ss) (some_after (all_dots n) s ss)
    ∙ ap (λ w. cond (v && not w) ((all_dots n ++ s ∷ ss) ++ [] ∷ []) (all_dots n ++ s ∷ ss)) (last_after is_double_dot (all_dots n) s ss ∙ last_no_dots s ss h)
    ∙ by_end v
  where
    by_end : (w : Bool) → cond (w && true) ((all_dots n ++ s ∷ ss) ++ [] ∷ []) (all_dots n ++ s ∷ ss) ≡ all_dots n ++ with_end w (s ∷ ss)
    by_end true = append_assoc (all_dots n) (s ∷ ss) ([] ∷ [])
    by_end false = refl

-- ---- the text

-- the first of the segments after as many ".."
joined_dots : (n : ℕ) (s : List ℕ) (ss : List (List ℕ)) → join_with_byte slash (all_dots n ++ s ∷ ss) ≡ with_parent_steps n (join_with_byte slash (s ∷ ss))
joined_dots zero s ss = refl
joined_dots (suc zero) s ss = refl
joined_dots (suc (suc n)) s ss = ap (λ u. dot ∷ dot ∷ slash ∷ u) (joined_dots (suc n) s ss)

only_dots : (n : ℕ) → join_with_byte slash (all_dots (suc n)) ≡ with_parent_steps n (dot ∷ dot ∷ [])
only_dots n = ap (join_with_byte slash) (sym (dots_push n)) ∙ joined_dots n dots []

-- the text of the relative normal form with these segments at the end, after as many ".."
abbrev form_text : List (List ℕ) → List (List ℕ) → List ℕ
form_text old new = join_with_byte slash (filled (with_leading_dot old new))

form_dots : (old new : List (List ℕ)) (n : ℕ) → form_text old (all_dots (suc n) ++ new) ≡ join_with_byte slash (all_dots (suc n) ++ new)
form_dots old new n = refl

form_plain : (old : List (List ℕ)) (s : List ℕ) (ss : List (List ℕ))
    → form_text old (s ∷ ss) ≡ cond (needs_leading_dot old (s ∷ ss)) (dot ∷ slash ∷ join_with_byte slash (s ∷ ss)) (join_with_byte slash (s ∷ ss))
form_plain old s ss = by_leading_dot (needs_leading_dot old (s ∷ ss))
  where
    by_leading_dot : (v : Bool) → join_with_byte slash (filled (cond v ((dot ∷ []) ∷ s ∷ ss) (s ∷ ss)))
        ≡ cond v (dot ∷ slash ∷ join_with_byte slash (s ∷ ss)) (join_with_byte slash (s ∷ ss))
    by_leading_dot true = refl
    by_leading_dot false = refl

joined_rooted : (l : List (List ℕ)) → list_all is_segment l ≡ true → is_rooted (join_with_byte slash l) ≡ starts_with_empty_segment l
joined_rooted [] h = refl
joined_rooted ([] ∷ []) h = refl
joined_rooted ([] ∷ r ∷ l) h = refl
joined_rooted ((b ∷ s) ∷ l) h = rooted-relative (b ∷ s) l (and_parts _ _ h).0 refl

first_end : (p : List ℕ → Bool) (v : Bool) (s : List ℕ) (ss : List (List ℕ)) → is_first p (with_end v (s ∷ ss)) ≡ is_first p (s ∷ ss)
first_end p true s ss = refl
first_end p false s ss = refl

end-canonical : (v : Bool) (ss : List (List ℕ)) → with_end v (map canonical ss) ≡ map canonical (with_end v ss)
end-canonical true ss = sym (push_empty-canonical ss)
end-canonical false ss = refl

end_each : (v : Bool) (ss : List (List ℕ)) → list_all is_segment ss ≡ true → list_all is_segment (with_end v ss) ≡ true
end_each true ss h = list_all-append is_segment ss ([] ∷ []) ∙ and_from _ _ h (and_from _ _ empty_segment refl)
end_each false ss h = h

abbrev joined : Bool → List (List ℕ) → List ℕ
joined v kept = join_with_byte slash (map canonical (with_end v kept))

kept_joined : (v : Bool) (kept : List (List ℕ)) → joined v kept ≡ remaining_text Canonical v kept
kept_joined v kept = ap (join_with_byte slash) (sym (map_canonical (with_end v kept)))

-- the form of segments that are left, by what precedes them
form_left : (v : Bool) (old kept : List (List ℕ)) (n : ℕ) (removed : Bool) → list_all is_segment kept ≡ true → has_dot_segment (map canonical kept) ≡ false
    → form_text (map canonical old) (closed v (all_dots n ++ map canonical kept))
    ≡ relative_text (is_first has_colon old) v (record { double_dots = n; kept = kept; removed = removed })
form_left v old [] zero removed h k =
    ap (λ t. cond (is_rooted t || (false && not (is_first has_colon old))) (dot ∷ slash ∷ t) t) (sym (kept_none Canonical v))
form_left v old [] (suc n) removed h k =
    ap (λ l. form_text (map canonical old) (closed v l)) (append-nil (all_dots (suc n)))
    ∙ ap (form_text (map canonical old)) (closed_dots v (suc n))
    ∙ ap (form_text (map canonical old)) (sym (append-nil (all_dots (suc n))))
    ∙ form_dots (map canonical old) [] n
    ∙ ap (join_with_byte slash) (append-nil (all_dots (suc n)))
    ∙ only_dots n
    ∙ ap (λ t. with_parent_steps n (dot ∷ dot ∷ t)) (sym (kept_none Canonical v))
form_left v old (s ∷ ss) zero removed h k =
    let new = with_end v (s ∷ ss) in
    ap (form_text (map canonical old)) (closed_left v zero (canonical s) (map canonical ss) k ∙ end-canonical v (s ∷ ss))
    ∙ by_end v
    ∙ ap (λ t. cond (is_rooted t || (has_colon s && not (is_first has_colon old))) (dot ∷ slash ∷ t) t) (kept_joined v (s ∷ ss))
  where
    plain : (new : List (List ℕ)) (r : List ℕ) (rs : List (List ℕ)) → new ≡ r ∷ rs → list_all is_segment new ≡ true → is_first has_colon new ≡ has_colon s
        → form_text (map canonical old) (map canonical new)
        ≡ cond (is_rooted (join_with_byte slash (map canonical new)) || (has_colon s && not (is_first has_colon old)))
        (dot ∷ slash ∷ join_with_byte slash (map canonical new)) (join_with_byte slash (map canonical new))
    plain new r rs e each colon =
        ap (λ l. form_text (map canonical old) (map canonical l)) e
        ∙ form_plain (map canonical old) (canonical r) (map canonical rs)
        ∙ ap (λ l. cond (needs_leading_dot (map canonical old) (map canonical l)) (dot ∷ slash ∷ join_with_byte slash (map canonical l))
        (join_with_byte slash (map canonical l))) (sym e)
        ∙ ap (λ w. cond (w || (is_first has_colon (map canonical new) && not (is_first has_colon (map canonical old))))
        (dot ∷ slash ∷ join_with_byte slash (map canonical new)) (join_with_byte slash (map canonical new)))
        (sym (joined_rooted (map canonical new) (each-canonical new each)))
        ∙ ap (λ w. cond (is_rooted (join_with_byte slash (map canonical new)) || (w && not (is_first has_colon (map canonical old))))
        (dot ∷ slash ∷ join_with_byte slash (map canonical new)) (join_with_byte slash (map canonical new))) (first_colon-canonical new ∙ colon)
        ∙ ap (λ w. cond (is_rooted (join_with_byte slash (map canonical new)) || (has_colon s && not w))
        (dot ∷ slash ∷ join_with_byte slash (map canonical new)) (join_with_byte slash (map canonical new))) (first_colon-canonical old)

    by_end : (w : Bool) → form_text (map canonical old) (map canonical (with_end w (s ∷ ss)))
        ≡ cond (is_rooted (joined w (s ∷ ss)) || (has_colon s && not (is_first has_colon old))) (dot ∷ slash ∷ joined w (s ∷ ss)) (joined w (s ∷ ss))
    by_end true = plain (with_end true (s ∷ ss)) s (ss ++ [] ∷ []) refl (end_each true (s ∷ ss) h) refl
    by_end false = plain (s ∷ ss) s ss refl h refl
form_left v old (s ∷ ss) (suc n) removed h k =
    ap (form_text (map canonical old)) (closed_left v (suc n) (canonical s) (map canonical ss) k)
    ∙ form_dots (map canonical old) (with_end v (canonical s ∷ map canonical ss)) n
    ∙ by_end v
    ∙ ap (with_parent_steps (suc n)) (ap (join_with_byte slash) (end-canonical v (s ∷ ss)) ∙ kept_joined v (s ∷ ss))
  where
    by_end : (w : Bool) → join_with_byte slash (all_dots (suc n) ++ with_end w (canonical s ∷ map canonical ss))
        ≡ with_parent_steps (suc n) (join_with_byte slash (with_end w (canonical s ∷ map canonical ss)))
    by_end true = joined_dots (suc n) (canonical s) (map canonical ss ++ [] ∷ [])
    by_end false = joined_dots (suc n) (canonical s) (map canonical ss)

with_parent_steps-append : (n : ℕ) (u t : List ℕ) → with_parent_steps n u ++ t ≡ with_parent_steps n (u ++ t)
with_parent_steps-append zero u t = refl
with_parent_steps-append (suc n) u t = ap (λ x. dot ∷ dot ∷ slash ∷ x) (with_parent_steps-append n u t)

-- the ".." that were put, and the text after them
pub led_climbed : (n : ℕ) (more with_leading_dot : Bool) (u t : List ℕ) → 0 < n → climbed n more (u ++ t) ≡ with_double_dots n more with_leading_dot u ++ t
led_climbed zero more with_leading_dot u t h = absurd (omega arith)
led_climbed (suc n) true with_leading_dot u t h = sym (with_parent_steps-append (suc n) u t)
led_climbed (suc n) false with_leading_dot u t h = sym (with_parent_steps-append n (dot ∷ dot ∷ u) t)

-- without a ".."
pub led_plain : (n : ℕ) (more with_leading_dot v : Bool) (u : List ℕ) → n ≡ 0 → with_leading_dot ≡ v → with_double_dots n more with_leading_dot u ≡ cond v (dot ∷ slash ∷ u) u
led_plain n more with_leading_dot v u e f = ap (λ m. with_double_dots m more with_leading_dot u) e ∙ ap (λ w. cond w (dot ∷ slash ∷ u) u) f

pub relative_left : (ss : List (List ℕ)) → list_all is_segment ss ≡ true
    → relative_text (is_first has_colon ss) (is_last is_dot_segment ss) (remaining_of ss) ≡ join_with_byte slash (relative_normal ss)
relative_left ss h =
    let l = remaining_of ss in
    let v = is_last is_dot_segment ss in
    let same : remaining_of (map canonical ss) ≡ canonical_left (remaining_of ss) = left-canonical ss h in
    sym (ap (join_with_byte slash) (sym (shaped-canonical ss h (each_reduced ss h)))
    ∙ ap (λ w. form_text (map canonical ss) (closed w (reduced (map canonical ss)))) (last-canonical is_dot_segment dot-canonical ss h)
    ∙ ap (λ u. form_text (map canonical ss) (closed v u)) (reduced_left (map canonical ss) (all_canonical-canonical ss h)
    ∙ ap (λ m. all_dots m.double_dots ++ m.kept) same)
    ∙ form_left v ss l.kept l.double_dots l.removed (all_kept is_segment ss h) (ap (λ m. has_dot_segment m.kept) (sym same) ∙ no_dots_kept (map canonical ss)))
