use Rattle.std.proofs.Common.{[], ◌∷◌, ◌++◌, sym, subst, append_assoc}
use Rattle.std.specs.Option.{option_copied}
use Rattle.uriparse_text.specs.Bytes.{colon}
use Rattle.uriparse_text.specs.Cuts.{ahead}
use Rattle.uriparse_text.specs.Ends.{EndsWith}
use Rattle.uriparse_reference.proofs.uri_reference.view.change.prepend_scheme.Goals as goal

pub returns-in-Some-clause-puts : goal.returns-in-Some-clause-puts
returns-in-Some-clause-puts c = λ t h.
    subst (λ o. EndsWith c.prepend.new.out c.prepend.result (ahead colon (option_copied o) ++ t)) (sym c.in-Some.is)
    (subst (EndsWith c.prepend.new.out c.prepend.result) (sym (append_assoc c.in-Some.scheme.now (colon ∷ []) t))
    (c.prepend.ensures.puts _ (c.prepend-len.ensures.puts t h)))
