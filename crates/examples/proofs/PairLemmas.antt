-- The pair of a name of which there is one.
use Rattle.std.proofs.Common.{◌≡◌, Bool, true, false, cond, List, [], ◌∷◌, Option, Some, None, map, refl, sym, ap, ◌∙◌}
use Rattle.std.specs.List.{filter, find}
use Rattle.std.specs.Option.{option_map}

abbrev Found : {A B : Type 0} → (A → B) → (A → Bool) → List A → B → Type 0
Found {A} {B} f p xs y = (x : A) × (find p xs ≡ Some x) × (f x ≡ y)

pub only_one : {A B : Type 0} (f : A → B) (p : A → Bool) (xs : List A) (y : B) → map f (filter p xs) ≡ y ∷ [] → Found f p xs y
only_one f p [] y e = cc
only_one {A} {B} f p (x ∷ xs) y e = by_test (p x) refl (only_one f p xs y)
  where
    by_test : (v : Bool) → p x ≡ v → (map f (filter p xs) ≡ y ∷ [] → Found f p xs y) → Found f p (x ∷ xs) y
    by_test true k later =
        let cut : f x ∷ map f (filter p xs) ≡ y ∷ [] = sym (ap (λ v. map f (cond v (x ∷ filter p xs) (filter p xs))) k) ∙ e in
        let same : f x ≡ y = cc in
        (x, ap (λ v. cond v (Some x) (find p xs)) k, same)
    by_test false k later =
        let r = later (sym (ap (λ v. map f (cond v (x ∷ filter p xs) (filter p xs))) k) ∙ e) in
        (r.0, ap (λ v. cond v (Some x) (find p xs)) k ∙ r.1, r.2)

pub some_mapped : {A B : Type 0} (f : A → B) (o : Option A) (y : B) → option_map f o ≡ Some y → (x : A) × (o ≡ Some x) × (f x ≡ y)
some_mapped f None y e = cc
some_mapped f (Some x) y e = let same : f x ≡ y = cc in (x, refl, same)
