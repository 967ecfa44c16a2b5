-- Paths in place keys: which directories a path is in.
use Rattle.std.proofs.Common.{◌≡◌, ℕ, ◌<◌, Bool, true, false, not, List, [], ◌∷◌, ◌++◌, length, length-append, drop, refl, sym, ap, ◌∙◌, append_assoc, arith}
use Rattle.std.specs.Prelude.{nat_lt}
use Rattle.std.specs.List.{flat_map, join_with_byte, list_all, slice_split}
use Rattle.std.proofs.lemmas.Bool.{and_from, and_parts, false≢true}
use Rattle.std.proofs.lemmas.List.Folds.{list_all-append}
use Rattle.std.proofs.Math.Seq.{drop-append_seam}
use Rattle.uriparse_text.specs.declared.internal.class.Class.TheVariants as class
use Rattle.uriparse_text.specs.Bytes.{slash}
use Rattle.uriparse_text.specs.Segment.{is_segment}
use Rattle.uriparse_text.proofs.lemmas.canonical.DotLemmas.{empty_segment}
use Rattle.uriparse_path.specs.Dots.{LacksSlash, all_but_last}
use Rattle.uriparse_path.specs.Path.{PathParts, is_slash, text}
use Rattle.uriparse_path.specs.Within.{AreWithin, between_slashes, has_ambiguous, led}
use Rattle.uriparse_path.proofs.lemmas.text.PathTextLemmas.{lacks_slash, pieces-segments}
use Rattle.uriparse_path.proofs.lemmas.text.SplitLemmas.{pieces-piece}
use Rattle.uriparse.specs.PlaceKey.{dot_end, directory_prefix}
use Rattle.uriparse.specs.SortKey.{end, ended}
use Rattle.uriparse.proofs.lemmas.PlaceHostLemmas.{high-in_class}
use Rattle.uriparse.proofs.lemmas.PlaceListLemmas.{AreHigh, ended-before, ended_split, high_from, same_first, same_rest}

-- ---- lists of segments

abbrev pub AreSegments : List (List ℕ) → Type 0
AreSegments ss = list_all is_segment ss ≡ true

segment_high : (s : List ℕ) → is_segment s ≡ true → AreHigh s
segment_high s h = high-in_class class.Segment s h

-- what slashes separate in a path are segments
pub led_segments : (v : Bool) (ss : List (List ℕ)) → AreSegments ss → AreSegments (led v ss)
led_segments true ss h = and_from (is_segment []) _ empty_segment h
led_segments false ss h = h

pub some_led : (v : Bool) (ss : List (List ℕ)) → 0 < length ss → 0 < length (led v ss)
some_led true ss h = omega arith
some_led false ss h = h

pub joined_text : (p : PathParts) → 0 < length p.segments → text p ≡ join_with_byte slash (between_slashes p)
joined_text p some = by_shape p.absolute p.segments some
  where
    by_shape : (a : Bool) (ss : List (List ℕ)) → 0 < length ss → text (record { absolute = a; segments = ss }) ≡ join_with_byte slash (led a ss)
    by_shape a [] some = absurd (omega (arith, some))
    by_shape true (s ∷ ss) some = refl
    by_shape false (s ∷ ss) some = refl

-- each byte of the joined segments passes a test that slashes and each byte of a segment do
pub joined_all : (p : ℕ → Bool) → p slash ≡ true → ((s : List ℕ) → is_segment s ≡ true → list_all p s ≡ true) → (ss : List (List ℕ)) → AreSegments ss
    → list_all p (join_with_byte slash ss) ≡ true
joined_all p ok each [] h = refl
joined_all p ok each (s ∷ []) h = each s (and_parts _ _ h).0
joined_all p ok each (s ∷ r ∷ ss) h =
    let both = and_parts (is_segment s) _ h in
    list_all-append p s (slash ∷ join_with_byte slash (r ∷ ss))
    ∙ and_from _ _ (each s both.0) (and_from _ _ ok (joined_all p ok each (r ∷ ss) both.1))

pub joined_high : (ss : List (List ℕ)) → AreSegments ss → AreHigh (join_with_byte slash ss)
joined_high ss h = joined_all (λ b. nat_lt dot_end b) refl segment_high ss h

-- ---- segments before slashes

not_slash : (b : ℕ) → not (is_slash b) ≡ true → b ≡ slash → ⊥
not_slash b h e = false≢true (ap (λ x. not (is_slash x)) (sym e) ∙ h)

slash_split : (s d r t : List ℕ) → LacksSlash s → LacksSlash d → s ++ slash ∷ r ≡ d ++ slash ∷ t → (s ≡ d) × (r ≡ t)
slash_split [] [] r t h k e = (refl, same_rest slash slash r t e)
slash_split [] (b ∷ d) r t h k e = absurd (not_slash b (and_parts _ _ k).0 (sym (same_first slash b _ _ e)))
slash_split (a ∷ s) [] r t h k e = absurd (not_slash a (and_parts _ _ h).0 (same_first a slash _ _ e))
slash_split (a ∷ s) (b ∷ d) r t h k e =
    let more = slash_split s d r t (and_parts _ _ h).1 (and_parts _ _ k).1 (same_rest a b _ _ e) in
    (ap (λ x. x ∷ s) (same_first a b _ _ e) ∙ ap (λ l. b ∷ l) more.0, more.1)

-- a last segment is followed by no slash
no_slash_after : (s d r t : List ℕ) → LacksSlash s → AreHigh d → s ++ end ∷ r ≡ d ++ slash ∷ t → ⊥
no_slash_after [] [] r t h k e = let same = same_first end slash _ _ e in absurd (omega (arith, same))
no_slash_after [] (b ∷ d) r t h k e =
    let same = same_first end b _ _ e in
    let high = high_from b (and_parts (nat_lt dot_end b) _ k).0 in
    absurd (omega (arith, same, high))
no_slash_after (a ∷ s) [] r t h k e = not_slash a (and_parts _ _ h).0 (same_first a slash _ _ e)
no_slash_after (a ∷ s) (b ∷ d) r t h k e = no_slash_after s d r t (and_parts _ _ h).1 (and_parts _ _ k).1 (same_rest a b _ _ e)

-- segments, each followed by a slash
abbrev pub slashed : List (List ℕ) → List ℕ
slashed ds = flat_map (λ u. u ++ slash ∷ []) ds

slashed-cons : (d : List ℕ) (ds : List (List ℕ)) (t : List ℕ) → slashed (d ∷ ds) ++ t ≡ d ++ slash ∷ (slashed ds ++ t)
slashed-cons d ds t = append_assoc (d ++ slash ∷ []) (slashed ds) t ∙ append_assoc d (slash ∷ []) (slashed ds ++ t)

joined-cons : (d : List ℕ) (xs : List (List ℕ)) → 0 < length xs → join_with_byte slash (d ∷ xs) ≡ d ++ slash ∷ join_with_byte slash xs
joined-cons d [] some = absurd (omega (arith, some))
joined-cons d (x ∷ xs) some = refl

-- segments that begin with these
pub joined_after : (ds rest : List (List ℕ)) → 0 < length rest → join_with_byte slash (ds ++ rest) ≡ slashed ds ++ join_with_byte slash rest
joined_after [] rest some = refl
joined_after (d ∷ ds) rest some =
    joined-cons d (ds ++ rest) (let sum = length-append ds rest in omega (arith, sum, some)) ∙ ap (λ t. d ++ slash ∷ t) (joined_after ds rest some)
    ∙ sym (slashed-cons d ds (join_with_byte slash rest))

pub directory_begins : (ss ds : List (List ℕ)) (r t : List ℕ) → 0 < length ss → AreSegments ss → AreSegments ds
    → join_with_byte slash ss ++ end ∷ r ≡ slashed ds ++ t → (rest : List (List ℕ)) × (ss ≡ ds ++ rest) × (0 < length rest)
directory_begins ss [] r t some h k e = (ss, refl, some)
directory_begins [] (d ∷ ds) r t some h k e = absurd (omega (arith, some))
directory_begins (s ∷ []) (d ∷ ds) r t some h k e =
    absurd (no_slash_after s d r (slashed ds ++ t) (lacks_slash s (and_parts _ _ h).0) (segment_high d (and_parts _ _ k).0) (e ∙ slashed-cons d ds t))
directory_begins (s ∷ x ∷ ss) (d ∷ ds) r t some h k e =
    let here = and_parts (is_segment s) _ h in
    let there = and_parts (is_segment d) _ k in
    let both = slash_split s d (join_with_byte slash (x ∷ ss) ++ end ∷ r) (slashed ds ++ t) (lacks_slash s here.0) (lacks_slash d there.0)
    (sym (append_assoc s (slash ∷ join_with_byte slash (x ∷ ss)) (end ∷ r)) ∙ e ∙ slashed-cons d ds t) in
    let more = directory_begins (x ∷ ss) ds r t (omega arith) here.1 there.1 both.1 in
    (more.0, ap (λ z. z ∷ x ∷ ss) both.0 ∙ ap (λ l. d ∷ l) more.1, more.2)

pub front_segments : (bs : List (List ℕ)) → AreSegments bs → AreSegments (all_but_last bs)
front_segments [] h = refl
front_segments (b ∷ []) h = refl
front_segments (b ∷ c ∷ bs) h = let both = and_parts (is_segment b) _ h in and_from _ _ both.0 (front_segments (c ∷ bs) both.1)

-- ---- a path within the directory of another one

-- a path that has one segment and no slash
one_segment : (ss : List (List ℕ)) (b r t : List ℕ) → 0 < length ss → AreSegments ss → is_segment b ≡ true
    → join_with_byte slash ss ++ end ∷ r ≡ b ++ end ∷ t → ss ≡ b ∷ []
one_segment [] b r t some h k e = absurd (omega (arith, some))
one_segment (s ∷ ss) b r t some h k e =
    let same = (ended_split (join_with_byte slash (s ∷ ss)) b r t (joined_high (s ∷ ss) h) (segment_high b k) e).0 in
    sym (pieces-segments s ss h) ∙ ap (slice_split is_slash) same ∙ pieces-piece b (lacks_slash b k)

pub within_prefix : (ss bs : List (List ℕ)) (tail : List ℕ) → AreWithin ss bs
    → (rest : List ℕ) × (ended (join_with_byte slash ss) ++ tail ≡ directory_prefix bs ++ rest)
within_prefix ss [] tail w = (ended (join_with_byte slash ss) ++ tail, refl)
within_prefix ss (b ∷ []) tail w = (tail, ap (λ l. ended (join_with_byte slash l) ++ tail) (w.alone refl))
within_prefix ss (b ∷ c ∷ bs) tail w =
    let ds = all_but_last (b ∷ c ∷ bs) in
    let rest = join_with_byte slash w.rest in (
      rest ++ end ∷ tail,
      ended-before (join_with_byte slash ss) tail
          ∙ ap (λ l. join_with_byte slash l ++ end ∷ tail) w.begins
          ∙ ap (λ t. t ++ end ∷ tail) (joined_after ds w.rest w.some)
          ∙ append_assoc (slashed ds) rest (end ∷ tail),
    )

pub within_plain : (ss bs : List (List ℕ)) → AreWithin ss bs → has_ambiguous (drop (length (all_but_last bs)) ss) ≡ false
within_plain ss bs w = ap (λ l. has_ambiguous (drop (length (all_but_last bs)) l)) w.begins
    ∙ ap has_ambiguous (drop-append_seam (all_but_last bs) w.rest) ∙ w.plain

pub prefix_within : (ss bs : List (List ℕ)) (tail t : List ℕ) → 0 < length ss → 0 < length bs → AreSegments ss → AreSegments bs
    → ended (join_with_byte slash ss) ++ tail ≡ directory_prefix bs ++ t → has_ambiguous (drop (length (all_but_last bs)) ss) ≡ false → AreWithin ss bs
prefix_within ss [] tail t some more h k e plain = absurd (omega (arith, more))
prefix_within ss (b ∷ []) tail t some more h k e plain =
    let same = one_segment ss b tail t some h (and_parts _ _ k).0 (sym (ended-before (join_with_byte slash ss) tail) ∙ e ∙ ended-before b t) in
    record { rest = ss; begins = refl; some = some; plain = plain; alone = λ one. same }
prefix_within ss (b ∷ c ∷ bs) tail t some more h k e plain =
    let ds = all_but_last (b ∷ c ∷ bs) in
    let is = directory_begins ss ds tail t some h (front_segments (b ∷ c ∷ bs) k) (sym (ended-before (join_with_byte slash ss) tail) ∙ e) in
    record {
      rest = is.0;
      begins = is.1;
      some = is.2;
      plain = sym (ap has_ambiguous (drop-append_seam ds is.0)) ∙ sym (ap (λ l. has_ambiguous (drop (length ds) l)) is.1) ∙ plain;
      alone = λ one. absurd (omega (arith, one));
    }
