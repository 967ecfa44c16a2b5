use Rattle.std.proofs.Common.{take, arith}
use Rattle.std.proofs.lemmas.List.{length-take-le}
use Rattle.uriparse_text.proofs.lemmas.readings.AheadLemmas.{known_first, marking_none}
use Rattle.uriparse_text.proofs.query.ahead.look_ahead.Goals as goal

pub mark_all-requires-clause-none : goal.mark_all-requires-clause-none
mark_all-requires-clause-none c =
    let e = c.first_names-count.ensures in
    let all = length-take-le c.first_names-count.result.1 c.first_names-count.result.0 (omega (arith, e.most, e.size)) in
    marking_none (take c.first_names-count.result.1 c.first_names-count.result.0) (omega (arith, e.most, all))

pub returns-clause-knows : goal.returns-clause-knows
returns-clause-knows c =
    let e = c.first_names-count.ensures in
    known_first c.args.names.now c.args.query.now c.first_names-count.result.0 c.mark_all.new.answers c.first_names-count.result.1 e.most e.size c.mark_all.array_long e.names c.mark_all.ensures
