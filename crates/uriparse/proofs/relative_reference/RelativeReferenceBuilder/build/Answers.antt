use Rattle.std.proofs.Common.{Ok, Err, refl, ap, ◌∙◌}
use Rattle.uriparse_reference.specs.Builder.{Held}
use Rattle.uriparse.specs.Kinds.{with_mapped_error}
use Rattle.uriparse.specs.RelativeReference.{map_error, relative_built}
use Rattle.uriparse.proofs.lemmas.BuilderLemmas.{built_scheme}
use Rattle.uriparse.proofs.relative_reference.RelativeReferenceBuilder.build.Goals as goal

pub of_checked-requires : goal.of_checked-requires
of_checked-requires c =
    let given : Held = c.self.inside.builder in
    built_scheme given given.path c.in-Ok.reference c.in-Ok.ensures ∙ c.self.invariant refl

pub returns-in-Ok : goal.returns-in-Ok
returns-in-Ok c = ap Ok c.of_checked.ensures ∙ ap (with_mapped_error map_error) c.in-Ok.ensures ∙ ap relative_built c.self.view_is

pub returns-in-Err : goal.returns-in-Err
returns-in-Err c = ap Err c.map_error.ensures ∙ ap (with_mapped_error map_error) c.in-Err.ensures ∙ ap relative_built c.self.view_is
