use Rattle.std.proofs.Common.{Err, ap, ◌∙◌}
use Rattle.uriparse.proofs.lemmas.ViewLemmas.{viewed_fault, viewed_kind}
use Rattle.uriparse.proofs.view_of.ViewOf.read.Goals as goal

pub returns-in-Ok : goal.returns-in-Ok
returns-in-Ok g c =
    c.of.ensures
    ∙ viewed_kind g.K.ReferenceKind.has_scheme g.K.ReferenceKind.map_error g.K.ReferenceKind.other c.args.bytes.now c.in-Ok.view c.in-Ok.ensures.text c.in-Ok.ensures.found

pub returns-in-Err : goal.returns-in-Err
returns-in-Err g c =
    ap Err c.map_error.ensures
    ∙ viewed_fault g.K.ReferenceKind.has_scheme g.K.ReferenceKind.map_error g.K.ReferenceKind.other c.args.bytes.now c.in-Err.error c.in-Err.ensures.reads
