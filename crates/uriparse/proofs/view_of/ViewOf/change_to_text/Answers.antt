use Rattle.std.proofs.Common.{◌≡◌, Ok, rules}
use Rattle.std.specs.Prelude.{Result}
use Rattle.uriparse_reference.specs.Reference.{Spells}
use Rattle.uriparse.specs.ChangeOf.{if_of_kind}
use Rattle.uriparse.specs.declared.change_of.KindChangeError.{KindChangeError}
use Rattle.uriparse.proofs.lemmas.KindChangeLemmas.{kind_made}
use Rattle.uriparse.proofs.view_of.ViewOf.change_to_text.Goals as goal

pub of_checked-requires : goal.of_checked-requires
of_checked-requires g c =
    let view = c.self.inside.view in
    let spelled : Spells view.text view.parts = search rules in
    let kept : ◌≡◌ {A = Result (Unit {0}) KindChangeError} (Ok tt) (if_of_kind g.K.ReferenceKind.has_scheme c.args.changes.now) = search rules in
    kind_made g.K.ReferenceKind.has_scheme c.args.changes.now view.text view.parts c.in-Ok.text spelled c.self.invariant kept c.in-Ok.ensures
