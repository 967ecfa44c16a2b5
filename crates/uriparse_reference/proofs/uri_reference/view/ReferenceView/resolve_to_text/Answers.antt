use Rattle.std.specs.Prelude.{string_bytes}
use Rattle.uriparse_reference.specs.Target.{target}
use Rattle.uriparse_reference.specs.declared.uri_reference.error.TargetError.TheVariants as targets
use Rattle.uriparse_reference.proofs.lemmas.reading.ReadBackLemmas.{resolved_stands, resolved_viewed, same_error}
use Rattle.uriparse_reference.proofs.uri_reference.view.ReferenceView.resolve_to_text.Goals as goal

pub checked_text-requires : goal.checked_text-requires
checked_text-requires c =
    let base = c.args.self.now in
    let reference = c.args.reference.now in
    resolved_stands base.text reference.text base.parts reference.parts c.as_str-base.ensures.spelled c.as_str-reference.ensures.spelled (λ e. cc) (λ e. cc)
    (string_bytes c.in-Ok.text) c.in-Ok.ensures.base c.in-Ok.ensures.target

pub returns-in-Ok-clause-target : goal.returns-in-Ok-clause-target
returns-in-Ok-clause-target c = λ h.
    let base = c.args.self.now in
    let reference = c.args.reference.now in
    resolved_viewed base.text reference.text base.parts reference.parts c.as_str-base.ensures.spelled c.as_str-reference.ensures.spelled _ (λ e. cc) h
    (string_bytes c.in-Ok.text) c.checked_text.result c.checked_text.ensures (c.in-Ok.ensures.target h)

pub returns-in-Err-clause-target : goal.returns-in-Err-clause-target
returns-in-Err-clause-target c = λ h.
    same_error _ _ (target c.args.self.now.parts c.args.reference.now.parts) c.in-Err.error targets.TooManySegments _ (c.in-Err.ensures.target h)
