use Rattle.std.proofs.Common.{sym, ap, subst, ◌∙◌}
use Rattle.uriparse_reference.specs.OwnedText.{IsReference, viewed_in}
use Rattle.uriparse_reference.specs.Reference.{print}
use Rattle.uriparse_reference.specs.Relate.{relative}
use Rattle.uriparse_reference.proofs.lemmas.reading.OwnedTextLemmas.{stands, viewed_stands}
use Rattle.uriparse_reference.proofs.lemmas.writing.RelativeTextLemmas.{read_again}
use Rattle.uriparse_reference.proofs.uri_reference.text.make.relativize_to_text.Goals as goal

pub checked_text-requires : goal.checked_text-requires
checked_text-requires c =
    let base = c.args.base.now in
    let target = c.args.target.now in
    let r = relative base.parts target.parts in
    subst IsReference (sym c.in-Ok.ensures)
    (stands (print r) r (read_again base.text target.text base.parts target.parts c.as_str-base.ensures.spelled c.as_str-target.ensures.spelled)).0

pub returns-in-Ok : goal.returns-in-Ok
returns-in-Ok c =
    let base = c.args.base.now in
    let target = c.args.target.now in
    let r = relative base.parts target.parts in
    c.checked_text.ensures ∙ ap viewed_in c.in-Ok.ensures
    ∙ viewed_stands (print r) r (read_again base.text target.text base.parts target.parts c.as_str-base.ensures.spelled c.as_str-target.ensures.spelled)
