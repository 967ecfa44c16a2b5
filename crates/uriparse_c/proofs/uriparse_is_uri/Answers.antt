use Rattle.std.proofs.Common.{ap, ◌∙◌}
use Rattle.std.specs.Prelude.{is_some}
use Rattle.uriparse_ffi.proofs.lemmas.ParseLemmas.{is_uri, is_no_uri}
use Rattle.uriparse_c.proofs.uriparse_is_uri.Goals as goal

pub returns-in-Ok : goal.returns-in-Ok
returns-in-Ok c =
    let found = c.in-Ok.ensures in
    is_uri c.args.text.now _ c.has_scheme.result found.is_read (c.has_scheme.ensures ∙ ap is_some found.is_scheme)

pub returns-in-Err : goal.returns-in-Err
returns-in-Err c = is_no_uri c.args.text.now c.in-Err.field-0 c.in-Err.ensures
