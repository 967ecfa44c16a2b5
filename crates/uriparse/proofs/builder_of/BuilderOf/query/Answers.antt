use Rattle.std.proofs.Common.{ap, ◌∙◌}
use Rattle.uriparse_reference.specs.Builder.{Held}
use Rattle.uriparse.proofs.builder_of.BuilderOf.query.Goals as goal

pub returns : goal.returns
returns g c = c.query.ensures ∙ ap {A = Held} (λ h. record h { query = c.args.query }) c.self.view_is
