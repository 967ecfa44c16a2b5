use Rattle.std.proofs.Common.{◌∙◌, subst}
use Rattle.uriparse_text.specs.Ends.{EndsWith}
use Rattle.uriparse_authority.proofs.lemmas.authorities.EndLemmas.{ipv6_text-host, future_text-host}
use Rattle.uriparse_authority.proofs.authority.write.prepend_host.Goals as goal

pub returns-in-IPv6Address-clause-puts : goal.returns-in-IPv6Address-clause-puts
returns-in-IPv6Address-clause-puts c = λ t h.
    subst (EndsWith c.prepend.new.out c.prepend.result) (ipv6_text-host c.args.form c.args.host.now _ t c.in-IPv6Address.is)
    (c.prepend.ensures.puts _ (c.prepend_ipv6-len.ensures.puts _ (c.prepend-len.ensures.puts t h)))

pub returns-in-IPvFuture-clause-puts : goal.returns-in-IPvFuture-clause-puts
returns-in-IPvFuture-clause-puts c = λ t h.
    subst (EndsWith c.prepend-in-IPvFuture.new.out c.prepend-in-IPvFuture.result)
    (future_text-host c.args.form c.args.host.now _ c.as_bytes.result.now t c.in-IPvFuture.is (c.as_bytes.ensures.value ∙ c.as_str.ensures.value))
    (c.prepend-in-IPvFuture.ensures.puts _ (c.prepend_formed-len.ensures.puts _ (c.prepend-len-in-IPvFuture.ensures.puts t h)))
