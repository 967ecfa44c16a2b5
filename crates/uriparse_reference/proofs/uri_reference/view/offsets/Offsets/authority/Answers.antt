use Rattle.std.proofs.Common.{◌≡◌, ◌==◌, false, rules}
use Rattle.uriparse_reference.proofs.lemmas.reading.OwnedTextLemmas.{never_fails, read_again}
use Rattle.uriparse_reference.proofs.uri_reference.view.offsets.Offsets.authority.Goals as goal

pub returns-in-Ok : goal.returns-in-Ok
returns-in-Ok c = λ a is.
    let there : (c.args.self.now.authority_kind == 0) ≡ false = search rules in
    read_again c.args.self.now.authority_kind c.args.self.now.name c.args.self.now.port c.args.text.now a there is c.in-Ok.found c.in-Ok.ensures.0

pub returns-in-Err : goal.returns-in-Err
returns-in-Err c = λ a is.
    let there : (c.args.self.now.authority_kind == 0) ≡ false = search rules in
    never_fails c.args.self.now.authority_kind c.args.self.now.name c.args.self.now.port c.args.text.now a there is c.in-Err.field-0 c.in-Err.ensures
