use Rattle.std.proofs.Common.{sym, ap, ◌∙◌}
use Rattle.uriparse_authority.specs.Authority.{ends_authority, reading}
use Rattle.uriparse_text.specs.Cuts.{up_to, from_first}
use Rattle.uriparse_authority.proofs.lemmas.authorities.AuthorityLemmas.{cut_there, found}
use Rattle.uriparse_authority.proofs.authority.read.find_authority.Goals as goal

pub returns-then-ends_before : goal.returns-then-ends_before
returns-then-ends_before c =
    let name = c.split_canonical_prefix.result.0.now in
    let rest = c.split_canonical_prefix.result.1.now in
    let whole = c.split_canonical_prefix.ensures.whole in
    let alone = c.find_host_alone.ensures in
    let ends = c.ends_before.ensures c.if-ends_before.true in
    let cut = cut_there name rest c.find_host_alone.result (found name c.find_host_alone.result alone) ends.0 ends.1 in
    (ap (λ t. reading (up_to ends_authority t)) (sym whole) ∙ ap reading cut.0 ∙ alone, sym cut.1 ∙ ap (from_first ends_authority) whole)
