use Rattle.std.proofs.Common.{◌+◌, ap, ◌∙◌, arith}
use Rattle.std.specs.Prelude.{nat_lt}
use Rattle.uriparse_path.proofs.lemmas.reading.ReadingLemmas.{limit_is}
use Rattle.uriparse_reference.proofs.lemmas.writing.RelativePathLemmas.{room_is}
use Rattle.uriparse_reference.proofs.uri_reference.view.relativize.path.has_room.Goals as goal

pub returns : goal.returns
returns c =
    room_is c.args.base c.args.left c.args.rest _ _ _ 1000000 _ c.saturating_add.ensures c.saturating_add-2.ensures c.saturating_add-3.ensures (omega arith)
    ∙ ap (nat_lt (c.args.base + (c.args.left + (c.args.rest + 1)))) limit_is
