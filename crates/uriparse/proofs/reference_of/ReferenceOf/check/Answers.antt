use Rattle.std.proofs.Common.{Err, sym, ap, ◌∙◌}
use Rattle.std.specs.Prelude.{is_some}
use Rattle.uriparse_scheme.specs.Scheme.{named}
use Rattle.uriparse_reference.specs.Cuts.{scheme_text}
use Rattle.uriparse.proofs.lemmas.KindLemmas.{checked, map_some, unchecked}
use Rattle.uriparse.proofs.reference_of.ReferenceOf.check.Goals as goal

pub returns-in-Ok : goal.returns-in-Ok
returns-in-Ok g c =
    let found = c.in-Ok.ensures in
    c.check_kind.ensures
    ∙ checked g.K.ReferenceKind.has_scheme g.K.ReferenceKind.map_error g.K.ReferenceKind.other c.args.bytes.now _ c.has_scheme.result
    (c.has_scheme.ensures ∙ ap is_some found.is_scheme ∙ sym (map_some named (scheme_text c.args.bytes.now))) found.is_read

pub returns-in-Err : goal.returns-in-Err
returns-in-Err g c =
    ap Err c.map_error.ensures ∙ unchecked g.K.ReferenceKind.has_scheme g.K.ReferenceKind.map_error g.K.ReferenceKind.other c.args.bytes.now c.in-Err.error c.in-Err.ensures
