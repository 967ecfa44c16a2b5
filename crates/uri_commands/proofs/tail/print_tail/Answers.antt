use Rattle.std.proofs.Common.{◌≡◌, Ok, rules}
use Rattle.std.specs.Prelude.{codes}
use Rattle.std.specs.Option.{option_copied}
use Rattle.uri_commands.proofs.ComponentLemmas.{followed, text_line}
use Rattle.uri_commands.proofs.tail.print_tail.Goals as goal

pub returns : goal.returns
returns g c =
    let query_is : option_copied c.as_ref.result ≡ c.args.tail.now.1 = search rules in
    let fragment_is : option_copied c.as_ref-2.result ≡ c.args.tail.now.2 = search rules in
    let query = text_line (codes "query") c.as_ref.result c.args.tail.now.1 _ _ (Ok tt) c.in_ok-print_part-2.ensures query_is in
    let last = text_line (codes "fragment") c.as_ref-2.result c.args.tail.now.2 _ _ c.print_part-3.result c.print_part-3.ensures fragment_is
    in
    followed _ _ _ _ _ _ c.in_ok-print_line.ensures (followed _ _ _ _ _ _ c.in_ok-print_part.ensures (followed _ _ _ _ _ _ query last))
