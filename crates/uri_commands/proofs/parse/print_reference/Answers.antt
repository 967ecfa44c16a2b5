use Rattle.std.proofs.Common.{Ok}
use Rattle.std.specs.Prelude.{codes}
use Rattle.uriparse.specs.Scheme as scheme
use Rattle.uri_commands.proofs.ComponentLemmas.{authority_written, followed, path_line, text_line, value_line}
use Rattle.uri_commands.proofs.parse.print_reference.Goals as goal

pub returns : goal.returns
returns g c =
    let p = c.args.reference.now in
    let named = value_line scheme.text (codes "scheme") c.scheme.result p.scheme _ _ (Ok tt) c.in_ok-print_part.ensures c.scheme.ensures in
    let authority = authority_written _ p.authority _ _ c.authority.ensures c.in_ok-print_authority.ensures in
    let path = path_line c.path.result.now p.path _ _ c.path.ensures.path c.in_ok-print_part-2.ensures in
    let query = text_line (codes "query") c.query.result p.query _ _ (Ok tt) c.in_ok-print_part-3.ensures c.query.ensures in
    let fragment = text_line
    (codes "fragment") c.fragment.result p.fragment _ _ c.print_part-4.result c.print_part-4.ensures c.fragment.ensures in
    followed _ _ _ _ _ _ c.in_ok-print_line.ensures
    (followed _ _ _ _ _ _ named (followed _ _ _ _ _ _ authority (followed _ _ _ _ _ _ path (followed _ _ _ _ _ _ query fragment))))
