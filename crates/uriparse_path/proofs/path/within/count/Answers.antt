use Rattle.std.proofs.Common.{arith}
use Rattle.uriparse_path.proofs.lemmas.left.PathWithinLemmas.{few_left, small}
use Rattle.uriparse_path.proofs.path.within.count.Goals as goal

pub overflow_add-count : goal.overflow_add-count
overflow_add-count g c =
    let bound = small _ _ _ c.segments.invariant.0 (few_left c.args.segments.absolute c.args.segments.ended _ c.requires) in
    omega (arith, bound)
