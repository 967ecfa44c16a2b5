use Rattle.std.proofs.Common.{Ok, refl, sym, ap, ◌∙◌}
use Rattle.uriparse_text.specs.Cuts.{up_to}
use Rattle.uriparse_authority.specs.Authority.{ends_authority}
use Rattle.uriparse_authority.proofs.lemmas.authorities.AuthorityLemmas.{rest_told}
use Rattle.uriparse_authority.proofs.authority.read.read_whole.Goals as goal

pub returns : goal.returns
returns c =
    let cut = c.in_ok-found.ensures in
    rest_told c.args.bytes.now (up_to ends_authority c.args.bytes.now) c.in_ok-found.rest.now c.to_authority.result c.rest_error.result refl cut.1
    (ap Ok c.to_authority.ensures ∙ sym cut.0)
    (sym c.is_empty.ensures ∙ c.if-is_empty.false) c.rest_error.ensures
