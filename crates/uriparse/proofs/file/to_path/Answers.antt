use Rattle.std.proofs.Common.{◌≡◌, ◌⊎◌, Err, inl, sym, subst, ap, ◌∙◌, rules}
use Rattle.std.specs.Prelude.{IfErr}
use Rattle.uriparse_text.specs.declared.segment.error.PathError.TheVariants.{OutOfMemory}
use Rattle.uriparse.specs.declared.file.error.FileError.TheVariants as errors
use Rattle.uriparse.specs.File as spec
use Rattle.uriparse.proofs.lemmas.FileLemmas.{checked_err, checked_ok, name_rejected, named_next}
use Rattle.uriparse.proofs.file.to_path.Goals as goal

pub returns-in_err-check_parts-clause-fault : goal.returns-in_err-check_parts-clause-fault
returns-in_err-check_parts-clause-fault c =
    let e = c.in_err-check_parts.field-0.0 in
    let is : c.from_residual.result ≡ Err e = search rules in
    subst (λ r. IfErr r (λ x. (spec.path_of_uri c.args.uri.now ≡ Err x) ⊎ (x ≡ errors.Path OutOfMemory))) (sym is)
    (inl (checked_err c.args.uri.now e (sym c.check_parts.ensures ∙ c.in_err-check_parts.was)))

pub returns-in_err-push_name-clause-fault : goal.returns-in_err-push_name-clause-fault
returns-in_err-push_name-clause-fault c =
    let e = c.in_err-push_name.field-0.0 in
    let is : c.from_residual-in_err-push_name.result ≡ Err e = search rules in
    let own = c.segments-segment-items.ensures.value ∙ ap (λ p. p.segments) c.path.ensures.path in
    subst (λ r. IfErr r (λ x. (spec.path_of_uri c.args.uri.now ≡ Err x) ⊎ (x ≡ errors.Path OutOfMemory))) (sym is)
    (name_rejected c.args.uri.now _ c.loop-segment.segment-index c.segment-item.result e
    (checked_ok c.args.uri.now c.in_ok-check_parts.field-0 (sym c.check_parts.ensures ∙ c.in_ok-check_parts.was)) own c.loop-segment-test.true
    (search rules) c.loop-segment.invariant.1 c.in_err-push_name.ensures.fault)

pub loop-segment-preserved : goal.loop-segment-preserved
loop-segment-preserved c =
    named_next _ c.loop-segment.segment-index c.segment-item.result _ _ c.loop-segment-test.true (search rules) c.loop-segment.invariant
    c.in_ok-push_name.ensures.name c.in_ok-push_name.ensures.none
