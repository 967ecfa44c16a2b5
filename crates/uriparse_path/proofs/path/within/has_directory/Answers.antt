use Rattle.std.proofs.Common.{ap, length, ◌∙◌, arith}
use Rattle.uriparse_path.proofs.lemmas.left.PathWithinLemmas.{ambiguous_directory, plain_directory, same_left}
use Rattle.uriparse_path.proofs.path.within.has_directory.Goals as goal

pub returns-in-Some : goal.returns-in-Some
returns-in-Some g c =
    let depth = c.count-depth.ensures ∙ ap length (same_left _ _ _ _ _ _ c.again.ensures) in
    let all = c.count-all.ensures ∙ ap length (same_left _ _ _ _ _ _ c.again-2.ensures) in
    plain_directory _ _ _ _ c.are_equal.result (omega (arith, c.if-all-depth.false, depth, all)) (omega (arith, depth, all)) c.in-Some.ensures.skips c.are_equal.ensures

pub returns-in-None : goal.returns-in-None
returns-in-None g c =
    let depth = c.count-depth.ensures ∙ ap length (same_left _ _ _ _ _ _ c.again.ensures) in
    let all = c.count-all.ensures ∙ ap length (same_left _ _ _ _ _ _ c.again-2.ensures) in
    ambiguous_directory _ _ _ (omega (arith, c.if-all-depth.false, depth, all)) (omega (arith, depth, all)) c.in-None.ensures.skips
