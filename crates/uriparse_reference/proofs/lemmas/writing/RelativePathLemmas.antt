-- The walk over the texts of two paths, and the text of the path that leads from one to the other.
use Rattle.std.proofs.Common.{◌≡◌, Bor, ℕ, zero, suc, ◌+◌, ◌<◌, ◌≤◌, Bool, true, false, ◌&&◌, ◌||◌, not, cond, List, [], ◌∷◌, ◌++◌, length, min, Option, Some, None, refl, sym, ap, ◌∙◌, arith, length-append}
use Rattle.std.specs.Prelude.{◌==◌, bytes_eq, nat_lt}
use Rattle.std.specs.List.{slice_split, join_with_byte}
use Rattle.std.specs.Option.{option_copied, option_or}
use Rattle.std.proofs.lemmas.Bool.{and_from, lt-ltb, le-ltb, ltb-true, ltb-false, ne_eqb, false≢true}
use Rattle.std.proofs.Math.Nat.{min-eq_left}
use Rattle.uriparse_text.specs.Bytes.{dot, slash}
use Rattle.uriparse_text.specs.Cuts.{from_first, part, up_to}
use Rattle.uriparse_path.specs.Path.{PathParts, max_segments, has_two_slashes, is_rooted, is_slash, spelled, text, unrooted}
use Rattle.uriparse_path.specs.Dots.{all_but_last, has_dot_segment, is_dot_segment}
use Rattle.uriparse_path.specs.Relative.{has_colon, is_first}
use Rattle.uriparse_path.specs.Relate as relate
use Rattle.uriparse_path.specs.Relate.{apart, double_dots, fronted, is_taken, leading, may_lead, stays_below}
use Rattle.uriparse_path.specs.Remaining.{with_parent_steps}
use Rattle.uriparse_path.specs.Text.{pieces_left}
use Rattle.uriparse_path.proofs.lemmas.text.SplitLemmas.{cut, joined-pieces, pieces-byte, pieces-slash}
use Rattle.uriparse_path.proofs.lemmas.text.PathTextLemmas.{text-spelled}
use Rattle.uriparse_path.proofs.lemmas.text.TextWalkLemmas.{left_cut, pieces_cut}
use Rattle.uriparse_reference.specs.Relate.{inner, stands_alone}
use Rattle.uriparse_reference.specs.RelativeText.{apart_of, directories}

abbrev pub make : List (List ℕ) → PathParts
make l = record { absolute = false; segments = l }

-- ---- directories

pub directories_only : (b d : List ℕ) → slice_split is_slash b ≡ d ∷ [] → directories b ≡ []
directories_only b d is = ap all_but_last is

pub directories_more : (b d l : List ℕ) → slice_split is_slash b ≡ d ∷ slice_split is_slash l → directories b ≡ d ∷ directories l
directories_more b d l is =
    let c = cut l in
    ap all_but_last (is ∙ ap (λ u. d ∷ u) c.pieces) ∙ sym (ap (λ u. d ∷ all_but_last u) c.pieces)

length_all_but_last : (s : List ℕ) (ss : List (List ℕ)) → length (all_but_last (s ∷ ss)) ≡ length ss
length_all_but_last s [] = refl
length_all_but_last s (r ∷ ss) = ap suc (length_all_but_last r ss)

pub length_pieces : (t : List ℕ) → length (slice_split is_slash t) ≡ length (directories t) + 1
length_pieces t =
    let c = cut t in
    let all = ap length c.pieces in
    let some = ap (λ u. length (all_but_last u)) c.pieces ∙ length_all_but_last c.first c.others in
    omega (arith, all, some)

-- there is a slash for each
pub directories_within : (t : List ℕ) → length (directories t) ≤ length t
directories_within [] = omega arith
directories_within (b ∷ t) = at_byte (is_slash b) refl (directories_within t)
  where
    at_byte : (v : Bool) → is_slash b ≡ v → length (directories t) ≤ length t → length (directories (b ∷ t)) ≤ suc (length t)
    at_byte true e h = let more = ap length (directories_more (b ∷ t) [] t (pieces-slash b t e)) in omega (arith, h, more)
    at_byte false e h =
        let c = cut t in
        let here = ap (λ u. length (all_but_last u)) (pieces-byte b t e c) ∙ length_all_but_last (b ∷ c.first) c.others in
        let there = ap (λ u. length (all_but_last u)) c.pieces ∙ length_all_but_last c.first c.others in
        omega (arith, h, here, there)

-- ---- one step of the walk

module _ (b t d s l r : List ℕ) (is : slice_split is_slash b ≡ d ∷ slice_split is_slash l) (js : slice_split is_slash t ≡ s ∷ slice_split is_slash r) where
  more : slice_split is_slash t ≡ s ∷ (cut r).first ∷ (cut r).others
  more = js ∙ ap (λ u. s ∷ u) (cut r).pieces

  stepped : apart_of b t ≡ cond (bytes_eq d s) (apart (directories l) ((cut r).first ∷ (cut r).others)) (double_dots (d ∷ directories l) ++ s ∷ (cut r).first ∷ (cut r).others)
  stepped = ap (λ u. apart u (slice_split is_slash t)) (directories_more b d l is) ∙ ap (apart (d ∷ directories l)) more

  pub in_shared : bytes_eq d s ≡ true → apart_of b t ≡ apart_of l r
  in_shared e =
      stepped
      ∙ ap (λ v. cond v (apart (directories l) ((cut r).first ∷ (cut r).others)) (double_dots (d ∷ directories l) ++ s ∷ (cut r).first ∷ (cut r).others)) e
      ∙ sym (ap (apart (directories l)) (cut r).pieces)

  pub below_both : stays_below (directories b) (slice_split is_slash t) ≡ bytes_eq d s
  below_both = ap (λ u. stays_below u (slice_split is_slash t)) (directories_more b d l is) ∙ ap (stays_below (d ∷ directories l)) more

-- a first piece, and those that are left, as the code cuts them
pub first_cut : (t d rest : List ℕ) (o : Option (Bor (List ℕ))) → d ≡ up_to is_slash t → rest ≡ from_first is_slash t → option_copied o ≡ part rest
    → slice_split is_slash t ≡ d ∷ pieces_left (option_copied o)
first_cut t d rest o e f k = left_cut t d (option_copied o) e (k ∙ ap part f)

-- ---- dot segments before the last segment

-- some is left and the one before was a dot segment, or one of those that are left, but not the last, is one
abbrev pub found_before : Bool → List (List ℕ) → Bool
found_before found [] = false
found_before found (s ∷ ss) = found || has_dot_segment (all_but_last (s ∷ ss))

pub found_first : (l : List (List ℕ)) → found_before false l ≡ has_dot_segment (all_but_last l)
found_first [] = refl
found_first (s ∷ ss) = refl

pub found_next : (s : List ℕ) (ss : List (List ℕ)) → found_before (is_dot_segment s) ss ≡ found_before false (s ∷ ss)
found_next s [] = refl
found_next s (r ∷ ss) = refl

-- ---- room for the segments

pub room_is : (a b c x y z m most : ℕ) → x ≡ min (a + b) most → y ≡ min (x + c) most → z ≡ min (y + 1) most → m ≤ most
    → nat_lt z m ≡ nat_lt (a + (b + (c + 1))) m
room_is a b c x y z m most e f g h = by_test (nat_lt (a + (b + (c + 1))) m) refl
  where
    by_test : (v : Bool) → nat_lt (a + (b + (c + 1))) m ≡ v → nat_lt z m ≡ v
    by_test true k =
        let less : a + (b + (c + 1)) < m = ltb-true _ m k in
        let one : x ≡ a + b = e ∙ min-eq_left (omega (arith, less, h)) in
        let two : y ≡ x + c = f ∙ min-eq_left (omega (arith, less, h, one)) in
        let three : z ≡ y + 1 = g ∙ min-eq_left (omega (arith, less, h, one, two)) in
        lt-ltb z m (omega (arith, less, one, two, three))
    by_test false k =
        let most_is : m ≤ a + (b + (c + 1)) = ltb-false _ m k in
        le-ltb z m (omega (arith, most_is, h, e, f, g))

length-double_dots : (ds : List (List ℕ)) → length (double_dots ds) ≡ length ds
length-double_dots [] = refl
length-double_dots (d ∷ ds) = ap suc (length-double_dots ds)

-- how long the merged path would be, by the counts of the directories
pub length_is : (b t l r : List ℕ) (n m k : ℕ) → apart_of b t ≡ double_dots (directories l) ++ slice_split is_slash r
    → n ≡ length (directories b) → m ≡ length (directories l) → k ≡ length (directories r)
    → n + (m + (k + 1)) ≡ length (directories b) + length (apart_of b t)
length_is b t l r n m k is e f g =
    let all = ap length is ∙ length-append (double_dots (directories l)) (slice_split is_slash r) in
    let steps = length-double_dots (directories l) in
    let pieces = length_pieces r in
    omega (arith, all, steps, pieces, e, f, g)

-- ---- the relative path, if there is one

abbrev led : PathParts → PathParts → Bool → Option PathParts
led b t v = cond {A = Option PathParts} v (Some (make (fronted (relate.apart_of b t)))) None

pub not_led : (b t : PathParts) → may_lead b t ≡ false → leading b t ≡ None
not_led b t h = ap (λ v. led b t (v && relate.has_room b t)) h

pub no_room : (b t : PathParts) → relate.has_room b t ≡ false → leading b t ≡ None
no_room b t h = ap (λ v. led b t (may_lead b t && v)) h ∙ by_test (may_lead b t)
  where
    by_test : (v : Bool) → led b t (v && false) ≡ None
    by_test true = refl
    by_test false = refl

pub led_there : (b t : PathParts) → may_lead b t ≡ true → relate.has_room b t ≡ true → leading b t ≡ Some (make (fronted (relate.apart_of b t)))
led_there b t h k = ap (led b t) (and_from _ _ h k)

-- ---- its text

abbrev pub stepped_text : Bool → ℕ → List ℕ → List ℕ
stepped_text dotted parents rest = cond dotted (dot ∷ slash ∷ with_parent_steps parents rest) (with_parent_steps parents rest)

pub needs_dot : (ds ss : List (List ℕ)) (n : ℕ) (v : Bool) → n ≡ length ds → v ≡ is_first is_taken ss
    → ((n == 0) && v) ≡ is_first is_taken (double_dots ds ++ ss)
needs_dot [] ss n v e f = ap (λ k. (k == 0) && v) e ∙ f
needs_dot (d ∷ ds) ss n v e f = ap (λ w. w && v) (ne_eqb n 0 (λ h. omega (arith, e, h)))

pub taken_is : (t : List ℕ) → is_first is_taken (slice_split is_slash t) ≡ is_taken (up_to is_slash t)
taken_is t = ap (is_first is_taken) (pieces_cut t)

pub taken_empty : (d : List ℕ) → (length d == 0) ≡ true → is_taken d ≡ true
taken_empty [] h = refl
taken_empty (b ∷ s) h = absurd (false≢true (sym (ne_eqb (suc (length s)) 0 (λ e. omega (arith, e))) ∙ h))

pub taken_colon : (d : List ℕ) → (length d == 0) ≡ false → is_taken d ≡ has_colon d
taken_colon [] h = absurd (false≢true (sym h))
taken_colon (b ∷ s) h = refl

joined_steps : (ds : List (List ℕ)) (s : List ℕ) (ss : List (List ℕ))
    → join_with_byte slash (double_dots ds ++ s ∷ ss) ≡ with_parent_steps (length ds) (join_with_byte slash (s ∷ ss))
joined_steps [] s ss = refl
joined_steps (d ∷ []) s ss = refl
joined_steps (d ∷ e ∷ ds) s ss = ap (λ u. dot ∷ dot ∷ slash ∷ u) (joined_steps (e ∷ ds) s ss)

joined_dot : (ds : List (List ℕ)) (s : List ℕ) (ss : List (List ℕ))
    → join_with_byte slash ((dot ∷ []) ∷ (double_dots ds ++ s ∷ ss)) ≡ dot ∷ slash ∷ join_with_byte slash (double_dots ds ++ s ∷ ss)
joined_dot [] s ss = refl
joined_dot (d ∷ ds) s ss = refl

joined_fronted : (ds : List (List ℕ)) (s : List ℕ) (ss : List (List ℕ)) (v : Bool)
    → join_with_byte slash (cond v ((dot ∷ []) ∷ (double_dots ds ++ s ∷ ss)) (double_dots ds ++ s ∷ ss))
    ≡ cond v (dot ∷ slash ∷ join_with_byte slash (double_dots ds ++ s ∷ ss)) (join_with_byte slash (double_dots ds ++ s ∷ ss))
joined_fronted ds s ss true = joined_dot ds s ss
joined_fronted ds s ss false = refl

pub leading_text : (ds : List (List ℕ)) (t : List ℕ) (n : ℕ) (v : Bool) → n ≡ length ds → v ≡ is_first is_taken (double_dots ds ++ slice_split is_slash t)
    → text (make (fronted (double_dots ds ++ slice_split is_slash t))) ≡ stepped_text v n t
leading_text ds t n v e f =
    let c = cut t in
    let whole : double_dots ds ++ slice_split is_slash t ≡ double_dots ds ++ c.first ∷ c.others = ap (λ u. double_dots ds ++ u) c.pieces in
    let steps : join_with_byte slash (double_dots ds ++ c.first ∷ c.others) ≡ with_parent_steps n t =
    joined_steps ds c.first c.others
    ∙ ap (λ u. with_parent_steps (length ds) (join_with_byte slash u)) (sym c.pieces)
    ∙ ap (with_parent_steps (length ds)) (joined-pieces t)
    ∙ ap (λ k. with_parent_steps k t) (sym e) in
    ap (λ l. join_with_byte slash (fronted l)) whole
    ∙ joined_fronted ds c.first c.others (is_first is_taken (double_dots ds ++ c.first ∷ c.others))
    ∙ ap (λ w. cond w (dot ∷ slash ∷ join_with_byte slash (double_dots ds ++ c.first ∷ c.others)) (join_with_byte slash (double_dots ds ++ c.first ∷ c.others)))
    (ap (is_first is_taken) (sym whole) ∙ sym f)
    ∙ ap (λ x. cond v (dot ∷ slash ∷ x) x) steps

pub steps-append : (n : ℕ) (u t : List ℕ) → with_parent_steps n u ++ t ≡ with_parent_steps n (u ++ t)
steps-append zero u t = refl
steps-append (suc n) u t = ap (λ x. dot ∷ dot ∷ slash ∷ x) (steps-append n u t)

-- ---- the same by the texts: of the paths b and t, of what follows their roots, and of what is left of these

module _ (b t base target l r : List ℕ) (n m k : ℕ) (cut_base : base ≡ unrooted b) (cut_target : target ≡ unrooted t)
    (is : apart_of base target ≡ double_dots (directories l) ++ slice_split is_slash r)
    (all : n ≡ length (directories base)) (left : m ≡ length (directories l)) (rest : k ≡ length (directories r)) where
  same_apart : relate.apart_of (spelled b) (spelled t) ≡ double_dots (directories l) ++ slice_split is_slash r
  same_apart = sym (ap (λ x. apart_of x target) cut_base ∙ ap (apart_of (unrooted b)) cut_target) ∙ is

  pub room_there : (v : Bool) → v ≡ nat_lt (n + (m + (k + 1))) max_segments → relate.has_room (spelled b) (spelled t) ≡ v
  room_there v h =
      ap (λ j. nat_lt j max_segments) (sym (length_is (unrooted b) (unrooted t) l r n m k same_apart (all ∙ ap (λ x. length (directories x)) cut_base) left rest))
      ∙ sym h

  pub text_there : (v : Bool) → v ≡ ((m == 0) && is_first is_taken (slice_split is_slash r))
      → stepped_text v m r ≡ text (make (fronted (relate.apart_of (spelled b) (spelled t))))
  text_there v h =
      sym (ap (λ u. text (make (fronted u))) same_apart
      ∙ leading_text (directories l) r m v left (h ∙ needs_dot (directories l) (slice_split is_slash r) m (is_first is_taken (slice_split is_slash r)) left refl))

-- ---- in a buffer

pub prepend_dotted : (n : ℕ) (rest t : List ℕ) (v : Bool) → v ≡ true → dot ∷ slash ∷ with_parent_steps n (rest ++ t) ≡ stepped_text v n rest ++ t
prepend_dotted n rest t v e = ap (λ u. dot ∷ slash ∷ u) (sym (steps-append n rest t)) ∙ sym (ap (λ w. stepped_text w n rest ++ t) e)

pub put_plain : (n : ℕ) (rest t : List ℕ) (v : Bool) → v ≡ false → with_parent_steps n (rest ++ t) ≡ stepped_text v n rest ++ t
put_plain n rest t v e = sym (steps-append n rest t) ∙ sym (ap (λ w. stepped_text w n rest ++ t) e)

-- ---- the path that is written if schemes and authorities are equal

abbrev or_whole : Option PathParts → Bool → PathParts → Option PathParts
or_whole o v t = option_or o (cond {A = Option PathParts} v (Some t) None)

pub inner_led : (b t p : PathParts) → leading b t ≡ Some p → inner b t ≡ Some p
inner_led b t p h = ap (λ o. or_whole o (stands_alone t) t) h

pub inner_whole : (b t : PathParts) → leading b t ≡ None → stands_alone t ≡ true → inner b t ≡ Some t
inner_whole b t h k = ap (λ o. or_whole o (stands_alone t) t) h ∙ ap (λ v. or_whole None v t) k

pub inner_none : (b t : PathParts) → leading b t ≡ None → stands_alone t ≡ false → inner b t ≡ None
inner_none b t h k = ap (λ o. or_whole o (stands_alone t) t) h ∙ ap (λ v. or_whole None v t) k

pub alone_is : (t : List ℕ) → (is_rooted t && not (is_rooted (unrooted t))) ≡ stands_alone (spelled t)
alone_is t = by_test (is_rooted t) ∙ ap (λ u. is_rooted t && not (has_two_slashes u)) (sym (text-spelled t))
  where
    by_test : (v : Bool) → (v && not (is_rooted (unrooted t))) ≡ (v && not (v && is_rooted (unrooted t)))
    by_test true = refl
    by_test false = refl
