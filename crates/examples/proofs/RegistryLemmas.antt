-- Registered identifiers stay distinct.
use Rattle.std.proofs.Common.{◌≡◌, false, List, [], ◌∷◌, ◌++◌, refl, arith, ◌∙◌}
use Rattle.std.proofs.lemmas.Grind.{common_steps}
use Rattle.std.proofs.lemmas.List.Folds.{list_any-append}
use Rattle.uriparse.specs.Reference.{Parts}
use Rattle.examples.specs.Equal.{is_equal, is_among}
use Rattle.examples.specs.Registry.{AreDistinct}

pub distinct_more : (ps : List Parts) (q : Parts) → AreDistinct ps → is_among ps q ≡ false → AreDistinct (ps ++ q ∷ [])
distinct_more [] q d n = (refl, tt)
distinct_more (p ∷ ps) q d n =
    let first : is_equal p q ≡ false = grind (arith, common_steps) in
    let rest : is_among ps q ≡ false = grind (arith, common_steps) in
    (list_any-append (λ x. is_equal p x) ps (q ∷ []) ∙ grind (arith, common_steps), distinct_more ps q d.1 rest)
