use Rattle.uriparse_text.specs.declared.segment.error.PathError.TheVariants.{OutOfMemory}
use Rattle.uriparse_reference.specs.declared.uri_reference.error.URIReferenceError.TheVariants as errors
use Rattle.uriparse.proofs.lemmas.KindLemmas.{kind_found, kind_only}
use Rattle.uriparse.proofs.reference_of.ReferenceOf.try_from_str.Goals as goal

pub returns-clause-found : goal.returns-clause-found
returns-clause-found g c =
    kind_found g.K.ReferenceKind.has_scheme g.K.ReferenceKind.map_error g.K.ReferenceKind.other (g.K.ReferenceKind.map_error (errors.Path OutOfMemory)) c.args.text.now c.read.result
    (rw c.as_bytes.ensures.value at c.read.ensures.answer)

pub returns-clause-only : goal.returns-clause-only
returns-clause-only g c =
    kind_only g.K.ReferenceKind.has_scheme g.K.ReferenceKind.map_error g.K.ReferenceKind.other (g.K.ReferenceKind.map_error (errors.Path OutOfMemory)) c.args.text.now c.read.result
    (rw c.as_bytes.ensures.value at c.read.ensures.answer)
