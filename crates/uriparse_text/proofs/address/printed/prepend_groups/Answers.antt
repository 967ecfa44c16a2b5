use Rattle.std.proofs.Common.{subst}
use Rattle.uriparse_text.specs.Ends.{EndsWith}
use Rattle.uriparse_text.proofs.lemmas.addresses.PutLemmas.{groups_head}
use Rattle.uriparse_text.proofs.address.printed.prepend_groups.Goals as goal

pub returns-in-len1-up-clause-puts : goal.returns-in-len1-up-clause-puts
returns-in-len1-up-clause-puts c = λ t h.
    subst (EndsWith c.prepend_hex.new.out c.prepend_hex.result) (groups_head c.args.segments.now t c.in-len1-up.len_at_least)
    (c.prepend_hex.ensures.puts _ (c.prepend_after_colons-len.ensures.puts t h))
