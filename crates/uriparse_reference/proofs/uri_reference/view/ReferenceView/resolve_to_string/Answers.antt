use Rattle.std.proofs.Common.{◌∙◌, refl, sym}
use Rattle.std.proofs.lemmas.Bool.{false≢true}
use Rattle.uriparse_reference.specs.Target.{target}
use Rattle.uriparse_reference.proofs.lemmas.writing.TargetLemmas.{no_target, nothing_written, short_enough}
use Rattle.uriparse_reference.proofs.uri_reference.view.ReferenceView.resolve_to_string.Goals as goal

pub returns-then-not-has_scheme : goal.returns-then-not-has_scheme
returns-then-not-has_scheme c = record {
  base = λ h. refl;
  target = λ h. absurd (false≢true (sym c.if-not-has_scheme.true ∙ c.has_scheme.ensures ∙ h));
}

pub returns-then-lacks_target : goal.returns-then-lacks_target
returns-then-lacks_target c = record {
  base = λ h. absurd (false≢true (sym h ∙ sym c.has_scheme.ensures ∙ c.if-not-has_scheme.false));
  target = λ h. nothing_written _ _ (target c.args.self.now.parts c.args.reference.now.parts)
      (no_target c.args.self.now.parts c.args.reference.now.parts (sym c.lacks_target.ensures ∙ c.if-lacks_target.true)) refl;
}

pub make_string-requires : goal.make_string-requires
make_string-requires c = (
  sym c.has_scheme.ensures ∙ c.if-not-has_scheme.false,
  short_enough c.args.self.now.parts c.args.reference.now.parts (sym c.lacks_target.ensures ∙ c.if-lacks_target.false),
)
