use Rattle.uriparse.proofs.sort_key.prepend_four.Goals as goal

pub returns-clause-puts : goal.returns-clause-puts
returns-clause-puts c = λ t h.
    c.prepend_octet.ensures.puts _ (c.prepend_octet-len-3.ensures.puts _ (c.prepend_octet-len-2.ensures.puts _ (c.prepend_octet-len.ensures.puts t h)))
