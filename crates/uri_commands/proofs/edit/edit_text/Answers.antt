use Rattle.std.proofs.Common.{◌≡◌, Err, map, refl, rules}
use Rattle.uri_commands.specs.Edits.{edit_of}
use Rattle.uri_commands.proofs.EditLemmas.{edits_unread}
use Rattle.uri_commands.proofs.edit.edit_text.Goals as goal

pub returns-in_err-read_changes : goal.returns-in_err-read_changes
returns-in_err-read_changes g c =
    let is : c.from_residual-in_err-read_changes.result ≡ Err c.in_err-read_changes.field-0.0 = search rules in
    edits_unread c.args.text.now c.in_ok-try_from_str.field-0 (map edit_of c.args.changes.now) c.in_err-read_changes.field-0.0
    (g.O.Write.contents c.args.out.now) (g.O.Write.contents c.args.out.now) c.from_residual-in_err-read_changes.result
    c.in_ok-try_from_str.ensures.found c.in_err-read_changes.ensures is refl
