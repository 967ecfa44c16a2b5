use Rattle.std.proofs.Common.{length, ◌-◌, ap, ◌∙◌, arith}
use Rattle.uriparse_path.specs.Path.{max_segments}
use Rattle.uriparse_path.specs.Offset as spec
use Rattle.uriparse_path.proofs.lemmas.reading.OffsetLemmas.{rooted_length}
use Rattle.uriparse_path.proofs.path.offset.offset_of_path_fault.Goals as goal

pub returns-clause-offset : goal.returns-clause-offset
unfolding max_segments
returns-clause-offset c =
    let t = c.args.text.now in
    let long = rooted_length t in
    let rest = c.split_root.ensures.rest in
    let same = ap length rest in
    let found = c.offset_within.ensures.offset ∙ ap (spec.offset_within (max_segments - 1)) rest in
    omega (arith, long, same, found)
