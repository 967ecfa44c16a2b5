use Rattle.std.proofs.Common.{◌∙◌, refl, sym}
use Rattle.std.proofs.lemmas.Bool.{false≢true}
use Rattle.uriparse_reference.specs.Target.{target}
use Rattle.uriparse_reference.proofs.lemmas.writing.TargetLemmas.{no_target, nothing_written, short_enough, some_target, target_written}
use Rattle.uriparse_reference.proofs.uri_reference.view.ReferenceView.resolve_into.Goals as goal

pub returns-then-not-has_scheme : goal.returns-then-not-has_scheme
returns-then-not-has_scheme c = record {
  base = λ h. (refl, refl);
  target = λ h. absurd (false≢true (sym c.if-not-has_scheme.true ∙ c.has_scheme.ensures ∙ h));
}

pub returns-then-lacks_target : goal.returns-then-lacks_target
returns-then-lacks_target c = record {
  base = λ h. absurd (false≢true (sym h ∙ sym c.has_scheme.ensures ∙ c.if-not-has_scheme.false));
  target = λ h. nothing_written _ _ (target c.args.self.now.parts c.args.reference.now.parts)
      (no_target c.args.self.now.parts c.args.reference.now.parts (sym c.lacks_target.ensures ∙ c.if-lacks_target.true)) (refl, refl);
}

pub write-requires : goal.write-requires
write-requires c = (
  sym c.has_scheme.ensures ∙ c.if-not-has_scheme.false,
  short_enough c.args.self.now.parts c.args.reference.now.parts (sym c.lacks_target.ensures ∙ c.if-lacks_target.false),
)

pub returns : goal.returns
returns c = record {
  base = λ h. absurd (false≢true (sym h ∙ sym c.has_scheme.ensures ∙ c.if-not-has_scheme.false));
  target = λ h. target_written c.write.result c.args.out.now c.write.new.out _ (target c.args.self.now.parts c.args.reference.now.parts)
      (some_target c.args.self.now.parts c.args.reference.now.parts
      (short_enough c.args.self.now.parts c.args.reference.now.parts (sym c.lacks_target.ensures ∙ c.if-lacks_target.false)))
      c.write.ensures;
}
