use Rattle.std.proofs.Common.{◌≡◌, Err, rules}
use Rattle.uri_commands.proofs.EditLemmas.{names_failed, names_read}
use Rattle.uri_commands.proofs.edit.read_names.Goals as goal

pub returns-in_err-names : goal.returns-in_err-names
returns-in_err-names c =
    let is : c.from_residual-in_err-names.result ≡ Err c.in_err-names.field-0.0 = search rules in
    names_failed c.args.name.now c.args.others.now c.in_ok-bytes.bytes.items _ c.in_ok-bytes.count _ c.from_residual-in_err-names.result
    c.in_ok-bytes.ensures
    c.deref.ensures.value c.in_err-names.ensures is

pub returns : goal.returns
returns c =
    names_read c.args.name.now c.args.others.now c.in_ok-bytes.bytes.items _ c.in_ok-names.names c.in_ok-bytes.count c.in_ok-bytes.ensures
    c.deref.ensures.value
    c.in_ok-names.ensures
