-- Parts that may be absent: how they compare, and how they are fed.
use Rattle.std.proofs.Common.{◌≡◌, ◌↔◌, ℕ, List, Option, Some, None, refl, ap}
use Rattle.std.specs.Prelude.{IsTrue, bytes_eq}
use Rattle.std.specs.Ordering.{on}
use Rattle.std.specs.Option.{option_map, option_eq}
use Rattle.std.specs.Hash.{HashWrites, option}
use Rattle.std.proofs.lemmas.Slice.Eq.{bytes_eq-Decides}

-- a part is in both or in neither, and has one text
pub same_option : {A : Type 0} (f : A → List ℕ) (x y : Option A) → IsTrue (option_eq (on f bytes_eq) x y) ↔ (option_map f x ≡ option_map f y)
same_option f None None = ((λ e. refl), (λ e. refl))
same_option f None (Some y) = ((λ e. absurd (cc)), (λ e. absurd (cc)))
same_option f (Some x) None = ((λ e. absurd (cc)), (λ e. absurd (cc)))
same_option f (Some x) (Some y) =
    let test = bytes_eq-Decides (f x) (f y) in
    ((λ e. ap Some (test.0 e)), (λ e. let texts : f x ≡ f y = cc in test.1 texts))

-- to feed a part's text is to feed the part by its text
pub fed_option : {A : Type 0} (f : A → List ℕ) (g : List ℕ → HashWrites) (x : Option A) → option g (option_map f x) ≡ option (λ y. g (f y)) x
fed_option f g None = refl
fed_option f g (Some x) = refl
