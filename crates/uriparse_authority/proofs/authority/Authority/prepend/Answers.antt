use Rattle.std.proofs.Common.{◌++◌, subst}
use Rattle.uriparse_text.specs.Ends.{EndsWith}
use Rattle.uriparse_authority.specs.Authority.{AuthorityParts, print}
use Rattle.uriparse_authority.specs.Ends.{formed_authority}
use Rattle.uriparse_authority.proofs.lemmas.authorities.EndLemmas.{formed_print}
use Rattle.uriparse_authority.proofs.authority.Authority.prepend.Goals as goal

pub returns-clause-puts : goal.returns-clause-puts
returns-clause-puts c = λ t h.
    let parts : AuthorityParts =
    record { username = c.self.inside.username; password = c.self.inside.password; host = c.self.inside.host; port = c.self.inside.port } in
    subst (λ p. EndsWith c.prepend_user.new.out c.prepend_user.result (print (formed_authority c.args.form p) ++ t)) c.self.view_is
    (subst (EndsWith c.prepend_user.new.out c.prepend_user.result) (formed_print c.args.form parts t)
    (c.prepend_user.ensures.puts _ (c.prepend_host_and_port-len.ensures.puts t h)))
