use Rattle.std.proofs.Common.{◌≡◌, Err, sym, ap, ◌∙◌, rules}
use Rattle.uriparse_reference.specs.Change.{changed_strings, strings}
use Rattle.uriparse_reference.proofs.lemmas.edits.ChangeLemmas.{changed_fault, changed_made, changed_refused}
use Rattle.uriparse_reference.proofs.uri_reference.change.check.change.Goals as goal

pub returns-in_err-strings : goal.returns-in_err-strings
returns-in_err-strings c =
    let e = c.in_err-strings.field-0.0 in
    let is : c.from_residual.result ≡ Err e = search rules in
    let none : changed_strings c.args.changes.now (strings c.args.text.now) ≡ Err e =
    ap (changed_strings c.args.changes.now) (sym c.cut_reference.ensures) ∙ sym c.in_err-strings.ensures in
    rw is (changed_fault c.args.changes.now c.args.text.now e none)

pub returns-in-Ok : goal.returns-in-Ok
returns-in-Ok c =
    changed_made c.args.changes.now c.args.text.now c.in_ok-strings.strings
    (ap (changed_strings c.args.changes.now) (sym c.cut_reference.ensures) ∙ sym c.in_ok-strings.ensures) c.in-Ok.ensures

pub returns-in-Err : goal.returns-in-Err
returns-in-Err c =
    changed_refused c.args.changes.now c.args.text.now c.in_ok-strings.strings c.in-Err.error
    (ap (changed_strings c.args.changes.now) (sym c.cut_reference.ensures) ∙ sym c.in_ok-strings.ensures) c.in-Err.ensures
