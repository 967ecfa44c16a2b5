use Rattle.std.proofs.Common.{subst}
use Rattle.uriparse_text.specs.Ends.{EndsWith}
use Rattle.uriparse.proofs.lemmas.PlaceNameLemmas.{place_put}
use Rattle.uriparse.proofs.place_key.prepend_place.Goals as goal

pub returns-clause-puts : goal.returns-clause-puts
returns-clause-puts c = λ t h.
    subst (EndsWith c.prepend_host_prefix.new.out c.prepend_host_prefix.result)
    (place_put c.args.authority.now c.args.port _ _ _ _ _ t c.host-2.ensures.value c.end_of.ensures c.host.ensures.value c.username.ensures c.password.ensures)
    (c.prepend_host_prefix.ensures.puts _ (c.prepend-len.ensures.puts _ (c.prepend_port-len.ensures.puts _ (c.prepend_optional-len-2.ensures.puts _ (c.prepend_optional-len.ensures.puts t h)))))
