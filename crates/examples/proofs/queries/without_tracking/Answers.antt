use Rattle.std.specs.List.{starts_with}
use Rattle.std.specs.Prelude.{◌==◌, codes}
use Rattle.examples.proofs.queries.without_tracking.Goals as goal

pub returns : goal.returns
returns c = c.without_pairs.ensures.chosen (λ p. starts_with ◌==◌ p.0 (codes "utm_")) (λ f g p b h. h.met.2)
