-- The test of being below a URI.
use Rattle.std.proofs.Common.{◌≡◌, ◌↔◌, ℕ, ◌<◌, Bool, true, false, not, List, [], ◌∷◌, ◌++◌, length, drop, Option, Some, None, refl, ap, ◌∙◌, arith, ◌&&◌, ◌||◌}
use Rattle.std.specs.Prelude.{◌==◌, bytes_eq}
use Rattle.std.specs.Option.{option_eq}
use Rattle.std.proofs.lemmas.Bool.{and_from, and_parts, eq-eqb, eqb-true, false≢true, not-true}
use Rattle.std.proofs.lemmas.Slice.Eq.{bytes_eq-Decides}
use Rattle.std.proofs.Math.Seq.{drop-append_seam}
use Rattle.uriparse_path.specs.Dots.{all_but_last}
use Rattle.uriparse_path.specs.Normal.{pnormal}
use Rattle.uriparse_path.specs.Within.{AreWithin, between_slashes, has_ambiguous, removes_unclear}
use Rattle.uriparse_reference.specs.Reference.{Parts}
use Rattle.uriparse.specs.Within.{IsWithin, are_clear, are_within, begins_with, is_same_place, is_within}

-- ---- lists

same_bytes : (s : List ℕ) → bytes_eq s s ≡ true
same_bytes s = (bytes_eq-Decides s s).1 refl

begins : (ds rest : List (List ℕ)) → begins_with (ds ++ rest) ds ≡ true
begins [] [] = refl
begins [] (r ∷ rest) = refl
begins (d ∷ ds) rest = and_from (bytes_eq d d) (begins_with (ds ++ rest) ds) (same_bytes d) (begins ds rest)

rest_of : (ss ds : List (List ℕ)) → begins_with ss ds ≡ true → ss ≡ ds ++ drop (length ds) ss
rest_of [] [] h = refl
rest_of (s ∷ ss) [] h = refl
rest_of [] (d ∷ ds) h = absurd (false≢true h)
rest_of (s ∷ ss) (d ∷ ds) h =
    let both = and_parts (bytes_eq s d) (begins_with ss ds) h in
    ap (λ x. x ∷ ss) ((bytes_eq-Decides s d).0 both.0) ∙ ap (λ l. d ∷ l) (rest_of ss ds both.1)

both_begin : (ss bs : List (List ℕ)) → begins_with ss bs ≡ true → begins_with bs ss ≡ true → ss ≡ bs
both_begin [] [] h k = refl
both_begin [] (b ∷ bs) h k = absurd (false≢true h)
both_begin (s ∷ ss) [] h k = absurd (false≢true k)
both_begin (s ∷ ss) (b ∷ bs) h k =
    let one = and_parts (bytes_eq s b) (begins_with ss bs) h in
    let other = and_parts (bytes_eq b s) (begins_with bs ss) k in
    ap (λ x. x ∷ ss) ((bytes_eq-Decides s b).0 one.0) ∙ ap (λ l. b ∷ l) (both_begin ss bs one.1 other.1)

begins_itself : (ss : List (List ℕ)) → begins_with ss ss ≡ true
begins_itself [] = refl
begins_itself (s ∷ ss) = and_from (bytes_eq s s) (begins_with ss ss) (same_bytes s) (begins_itself ss)

clear_parts : (ss : List (List ℕ)) → are_clear ss ≡ true → (0 < length ss) × (has_ambiguous ss ≡ false)
clear_parts [] h = absurd (false≢true h)
clear_parts (s ∷ ss) h = (omega arith, not-true (has_ambiguous (s ∷ ss)) h)

clear_from : (ss : List (List ℕ)) → 0 < length ss → has_ambiguous ss ≡ false → are_clear ss ≡ true
clear_from [] some h = absurd (omega (arith, some))
clear_from (s ∷ ss) some h = ap not h

or_second : (v w : Bool) → (not v || w) ≡ true → v ≡ true → w ≡ true
or_second true w h e = h
or_second false w h e = absurd (false≢true e)

tested_lists : (ss bs : List (List ℕ)) → (are_within ss bs ≡ true) ↔ AreWithin ss bs
tested_lists ss bs = (
  λ h.
      let ds = all_but_last bs in
      let both = and_parts (begins_with ss ds && are_clear (drop (length ds) ss)) (not (length bs == 1) || (begins_with ss bs && begins_with bs ss)) h in
      let first = and_parts (begins_with ss ds) (are_clear (drop (length ds) ss)) both.0 in
      let clear = clear_parts (drop (length ds) ss) first.1 in
      record {
        rest = drop (length ds) ss;
        begins = rest_of ss ds first.0;
        some = clear.0;
        plain = clear.1;
        alone = λ one.
            let same = or_second (length bs == 1) (begins_with ss bs && begins_with bs ss) both.1 (eq-eqb (length bs) 1 one) in
            let each = and_parts (begins_with ss bs) (begins_with bs ss) same in
            both_begin ss bs each.0 each.1;
      },
  λ w.
      let ds = all_but_last bs in
      let left : drop (length ds) ss ≡ w.rest = ap (drop (length ds)) w.begins ∙ drop-append_seam ds w.rest in
      and_from (begins_with ss ds && are_clear (drop (length ds) ss)) (not (length bs == 1) || (begins_with ss bs && begins_with bs ss))
      (and_from (begins_with ss ds) (are_clear (drop (length ds) ss)) (ap (λ l. begins_with l ds) w.begins ∙ begins ds w.rest)
      (ap are_clear left ∙ clear_from w.rest w.some w.plain))
      (by_one (length bs == 1) refl w),
)
  where
    by_one : (v : Bool) → (length bs == 1) ≡ v → AreWithin ss bs → (not v || (begins_with ss bs && begins_with bs ss)) ≡ true
    by_one false e w = refl
    by_one true e w =
        let same = w.alone (eqb-true (length bs) 1 e) in
        and_from (begins_with ss bs) (begins_with bs ss) (ap (λ l. begins_with l bs) same ∙ begins_itself bs) (ap (begins_with bs) same ∙ begins_itself bs)

-- ---- the place

option_same : (o p : Option (List ℕ)) → (option_eq bytes_eq o p ≡ true) ↔ (o ≡ p)
option_same None None = (λ h. refl, λ h. refl)
option_same None (Some t) = (λ h. absurd (false≢true h), λ h. absurd (cc))
option_same (Some s) None = (λ h. absurd (false≢true h), λ h. absurd (cc))
option_same (Some s) (Some t) = (λ h. ap Some ((bytes_eq-Decides s t).0 h), λ h. let same : s ≡ t = cc in (bytes_eq-Decides s t).1 same)

pub within_tested : (p b : Parts) → (is_within p b ≡ true) ↔ IsWithin p b
within_tested p b = (
  λ h.
      let both = and_parts (is_same_place p b) (are_within ps bs && not (removes_unclear p.path)) h in
      let place = and_parts _ _ both.0 in
      let paths = and_parts (are_within ps bs) (not (removes_unclear p.path)) both.1 in
      record {
        place = record { schemes = (option_same _ _).0 place.0; authorities = (option_same _ _).0 place.1 };
        path = (tested_lists ps bs).0 paths.0;
        clear = not-true (removes_unclear p.path) paths.1;
      },
  λ w. and_from (is_same_place p b) (are_within ps bs && not (removes_unclear p.path))
      (and_from _ _ ((option_same _ _).1 w.place.schemes) ((option_same _ _).1 w.place.authorities))
      (and_from (are_within ps bs) (not (removes_unclear p.path)) ((tested_lists ps bs).1 w.path) (ap not w.clear)),
)
  where
    ps : List (List ℕ)
    ps = between_slashes (pnormal p.path false)

    bs : List (List ℕ)
    bs = between_slashes (pnormal b.path false)
