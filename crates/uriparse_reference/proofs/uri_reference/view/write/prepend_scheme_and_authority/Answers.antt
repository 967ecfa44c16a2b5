use Rattle.std.proofs.Common.{sym, subst, append_assoc}
use Rattle.uriparse_text.specs.Ends.{EndsWith}
use Rattle.uriparse_reference.proofs.uri_reference.view.write.prepend_scheme_and_authority.Goals as goal

pub returns-clause-puts : goal.returns-clause-puts
returns-clause-puts c = λ t h.
    subst (EndsWith c.prepend_scheme.new.out c.prepend_scheme.result) (sym (append_assoc _ _ t))
    (c.prepend_scheme.ensures.puts _ (c.prepend_authority-len.ensures.puts t h))
