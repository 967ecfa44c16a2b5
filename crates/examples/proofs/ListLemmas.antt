-- Lists that are gone through from the left.
use Rattle.std.proofs.Common.{◌≡◌, ◌<◌, ℕ, zero, suc, ◌+◌, true, List, [], ◌∷◌, ◌++◌, Option, Some, map, length, take, get_or, refl, sym, ap, subst, ◌∙◌, arith}
use Rattle.std.proofs.Math.Seq.{take-suc}
use Rattle.std.proofs.lemmas.List.{map-append}
use Rattle.std.specs.Prelude.{is_some, slice_get}
use Rattle.std.specs.List.{list_all}
use Rattle.std.specs.Option.{IsSomeAnd}
use Rattle.std.proofs.lemmas.Grind.{common_steps}

-- each has an image
pub all_have : {X Y : Type 0} (f : X → Option Y) (xs : List X) (ys : List Y) → map f xs ≡ map Some ys → list_all (λ x. is_some (f x)) xs ≡ true
all_have f [] ys e = refl
all_have f (x ∷ xs) [] e = grind (arith, common_steps)
all_have f (x ∷ xs) (y ∷ ys) e = grind (arith, common_steps, all_have f xs ys)

-- an element in its place
pub in_place : {X : Type 0} (P : X → Type 0) (xs : List X) (i : ℕ) (x : X) → i < length xs → x ≡ get_or xs i x → P x → IsSomeAnd (slice_get xs i) P
in_place P [] i x lt is h = absurd (omega (arith, lt))
in_place P (y ∷ ys) zero x lt is h = subst P is h
in_place P (y ∷ ys) (suc i) x lt is h = in_place P ys i x (omega (arith, lt)) is h

-- one more has an image, which is the list's last
pub images_more : {X Y : Type 0} (f : X → Option Y) (xs : List X) (ys zs : List Y) (i : ℕ) (x : X) → i < length xs → x ≡ get_or xs i x
    → map f (take i xs) ≡ map Some ys → (y : Y) × (f x ≡ Some y) × (zs ≡ ys ++ y ∷ []) → map f (take (i + 1) xs) ≡ map Some zs
images_more f xs ys zs i x lt is h (y, e, k) =
    let next : i + 1 ≡ suc i = omega arith in
    ap (λ j. map f (take j xs)) next ∙ ap (map f) (take-suc xs i x lt) ∙ map-append f (take i xs) (get_or xs i x ∷ []) ∙ ap (λ l. l ++ f (get_or xs i x) ∷ []) h
    ∙ ap (λ o. map Some ys ++ o ∷ []) (ap f (sym is) ∙ e) ∙ sym (map-append Some ys (y ∷ [])) ∙ ap (map Some) (sym k)
