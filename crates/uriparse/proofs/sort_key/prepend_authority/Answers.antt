use Rattle.std.proofs.Common.{List, ℕ, Option, ◌++◌, ◌∷◌, ◌∙◌, ap, append_assoc, subst, sym}
use Rattle.std.specs.Option.{option_map}
use Rattle.uriparse_authority.specs.Authority.{AuthorityParts, with_port}
use Rattle.uriparse_text.specs.Canonical.{canonical}
use Rattle.uriparse_text.specs.Ends.{EndsWith}
use Rattle.uriparse.specs.SortKey.{authority_key, digits, ended, host_key, optional, present}
use Rattle.uriparse.proofs.lemmas.KeyFormLemmas.{authority_text}
use Rattle.uriparse.proofs.sort_key.prepend_authority.Goals as goal

pub returns-in-Some-clause-puts : goal.returns-in-Some-clause-puts
returns-in-Some-clause-puts c = λ t h.
    subst (EndsWith c.prepend.new.out c.prepend.result)
    (authority_text c.args.authority.now c.in-Some.authority _ _ c.host.result.now c.args.port t c.in-Some.is c.username.ensures c.password.ensures c.host.ensures.value)
    (c.prepend.ensures.puts _ (c.prepend_optional-len-in-Some.ensures.puts _ (c.prepend_optional-len.ensures.puts _ (c.prepend_host-len.ensures.puts _ (c.prepend_port-len.ensures.puts t h)))))
