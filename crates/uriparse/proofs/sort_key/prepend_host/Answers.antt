use Rattle.std.proofs.Common.{◌++◌, ◌∷◌, ◌∙◌, ap, subst, sym}
use Rattle.uriparse_text.specs.Canonical.{canonical_lowered}
use Rattle.uriparse_text.specs.Ends.{EndsWith}
use Rattle.uriparse.specs.SortKey.{ended, host_key}
use Rattle.uriparse.proofs.sort_key.prepend_host.Goals as goal

pub returns-in-RegisteredName-clause-puts : goal.returns-in-RegisteredName-clause-puts
returns-in-RegisteredName-clause-puts c = λ t h.
    subst (EndsWith c.prepend-in-RegisteredName.new.out c.prepend-in-RegisteredName.result)
    (ap (λ u. (49 ∷ ended (canonical_lowered u)) ++ t) (c.as_bytes-in-RegisteredName.ensures.value ∙ c.as_str-in-RegisteredName.ensures.value)
    ∙ ap (λ g. host_key g ++ t) (sym c.in-RegisteredName.is))
    (c.prepend-in-RegisteredName.ensures.puts _ (c.prepend_ended-len-in-RegisteredName.ensures.puts t h))
