use Rattle.std.proofs.Common.{◌++◌, sym, subst}
use Rattle.std.specs.Option.{option_copied}
use Rattle.uriparse_text.specs.Cuts.{following}
use Rattle.uriparse_text.specs.Ends.{EndsWith}
use Rattle.uriparse_reference.proofs.uri_reference.view.change.prepend_following.Goals as goal

pub returns-in-Some-clause-puts : goal.returns-in-Some-clause-puts
returns-in-Some-clause-puts c = λ t h.
    subst (λ o. EndsWith c.prepend.new.out c.prepend.result (following c.args.delimiter (option_copied o) ++ t)) (sym c.in-Some.is)
    (c.prepend.ensures.puts _ (c.prepend-len.ensures.puts t h))
