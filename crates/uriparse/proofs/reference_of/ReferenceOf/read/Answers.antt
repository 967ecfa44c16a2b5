use Rattle.std.proofs.Common.{◌≡◌, length, sym, ap, subst, ◌∙◌}
use Rattle.uriparse_text.specs.Readings.{IsUnless}
use Rattle.uriparse_text.specs.declared.segment.error.PathError.TheVariants.{OutOfMemory}
use Rattle.uriparse_reference.specs.declared.uri_reference.error.URIReferenceError.TheVariants as errors
use Rattle.uriparse_reference.specs.Reference.{Parts}
use Rattle.uriparse_reference.proofs.lemmas.reading.ReadingLemmas.{one_reading}
use Rattle.uriparse.specs.Kinds.{of_kind}
use Rattle.uriparse.proofs.lemmas.KindLemmas.{of_its_kind, read_of}
use Rattle.uriparse.proofs.reference_of.ReferenceOf.read.Goals as goal

pub returns-in-Ok-clause-answer : goal.returns-in-Ok-clause-answer
returns-in-Ok-clause-answer g c =
    subst (λ r. IsUnless (g.K.ReferenceKind.map_error (errors.Path OutOfMemory)) c.of_view.result r)
    (sym (read_of g.K.ReferenceKind.has_scheme g.K.ReferenceKind.map_error g.K.ReferenceKind.other c.args.bytes.now c.in-Ok.view.parts c.in-Ok.ensures.found))
    c.of_view.ensures.answer

pub returns-in-Ok-clause-takes_no_memory : goal.returns-in-Ok-clause-takes_no_memory
returns-in-Ok-clause-takes_no_memory g c p s k n =
    let one : c.in-Ok.view.parts ≡ p = one_reading c.args.bytes.now c.in-Ok.view.parts p c.in-Ok.ensures.found s in
    c.of_view.ensures.takes_no_memory (subst (λ (q : Parts). length q.path.segments ≡ 1) (sym one) n)
    ∙ ap (of_kind g.K.ReferenceKind.has_scheme g.K.ReferenceKind.other) one ∙ of_its_kind g.K.ReferenceKind.has_scheme g.K.ReferenceKind.other p k

pub returns-in-Err-clause-takes_no_memory : goal.returns-in-Err-clause-takes_no_memory
returns-in-Err-clause-takes_no_memory g c p s k n = absurd (cc (c.in-Err.ensures.only p s))
