use Rattle.std.proofs.Common.{◌∙◌}
use Rattle.uriparse.proofs.lemmas.ViewLemmas.{viewed_faulty, viewed_only, viewed_spelled, viewed_text}
use Rattle.uriparse.proofs.view_of.ViewOf.try_from_bytes.Goals as goal

pub returns-clause-text : goal.returns-clause-text
returns-clause-text g c =
    viewed_text g.K.ReferenceKind.has_scheme g.K.ReferenceKind.map_error g.K.ReferenceKind.other c.args.bytes.now c.read.result
    c.read.ensures

pub returns-clause-found : goal.returns-clause-found
returns-clause-found g c =
    viewed_spelled g.K.ReferenceKind.has_scheme g.K.ReferenceKind.map_error g.K.ReferenceKind.other c.args.bytes.now c.read.result
    c.read.ensures

pub returns-clause-only : goal.returns-clause-only
returns-clause-only g c p s k =
    c.read.ensures
    ∙ viewed_only g.K.ReferenceKind.has_scheme g.K.ReferenceKind.map_error g.K.ReferenceKind.other c.args.bytes.now p s k

pub returns-clause-fault : goal.returns-clause-fault
returns-clause-fault g c =
    viewed_faulty g.K.ReferenceKind.has_scheme g.K.ReferenceKind.map_error g.K.ReferenceKind.other c.args.bytes.now c.read.result
    c.read.ensures
