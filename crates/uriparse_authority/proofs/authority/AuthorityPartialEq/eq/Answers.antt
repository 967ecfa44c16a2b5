use Rattle.std.proofs.Common.{◌∙◌}
use Rattle.uriparse_authority.proofs.lemmas.authorities.AuthorityLemmas.{tested}
use Rattle.uriparse_authority.proofs.authority.AuthorityPartialEq.eq.Goals as goal

pub returns : goal.returns
returns c =
    let valid = c.is_each_alike.ensures.valid in
    c.is_each_alike.ensures.test ∙ tested c.args.self.now c.args.other.now valid.0 valid.1
