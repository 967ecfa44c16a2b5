use Rattle.std.proofs.Common.{refl, subst, sym, ◌∙◌}
use Rattle.uriparse.specs.Kinds.{HoldsKind}
use Rattle.uriparse.proofs.builder_of.BuilderOf.new.Goals as goal

pub of_checked-requires : goal.of_checked-requires
of_checked-requires g c = subst (HoldsKind g.K.ReferenceKind.has_scheme) (sym c.new.ensures) (λ _. refl)

pub returns : goal.returns
returns g c = c.of_checked.ensures ∙ c.new.ensures
