use Rattle.std.proofs.Common.{◌≡◌, length, rules}
use Rattle.uriparse_reference.specs.Change.{changing}
use Rattle.uriparse_ffi.proofs.lemmas.ChangeLemmas.{change_answered}
use Rattle.uriparse_ffi.proofs.changes.write_with.Goals as goal

pub returns : goal.returns
returns c =
    let room : length c.change_into.new.out ≡ length c.args.out.now = search rules in
    change_answered (changing c.args.changes.now c.args.view.now.text) c.change_into.result c.args.out.now c.change_into.new.out
    c.answer_change.new.needed c.answer_change.result c.change_into.ensures room c.answer_change.ensures.code c.answer_change.ensures.needed
