use Rattle.std.proofs.Common.{subst}
use Rattle.uriparse_text.specs.Ends.{EndsWith}
use Rattle.uriparse.proofs.lemmas.PlacePutLemmas.{front_put}
use Rattle.uriparse.proofs.place_key.prepend_front.Goals as goal

pub returns-clause-puts : goal.returns-clause-puts
returns-clause-puts c = λ t h.
    subst (EndsWith c.prepend.new.out c.prepend.result)
    (front_put c.args.view.now.parts _ _ _ t c.scheme.ensures c.authority.ensures c.default_port.ensures)
    (c.prepend.ensures.puts _ (c.prepend_authority-len.ensures.puts _ (c.prepend_scheme-len.ensures.puts t h)))
