use Rattle.std.proofs.Common.{◌++◌, sym, subst}
use Rattle.std.specs.Option.{option_copied}
use Rattle.uriparse_text.specs.Bytes.{at_sign, colon}
use Rattle.uriparse_text.specs.Cuts.{ahead, following}
use Rattle.uriparse_text.specs.Ends.{EndsWith}
use Rattle.uriparse_authority.specs.Authority.{userinfo}
use Rattle.uriparse_reference.proofs.lemmas.writing.ChangedEndLemmas.{user_put}
use Rattle.uriparse_reference.proofs.uri_reference.view.change.prepend_user.Goals as goal

pub returns-in-Some-clause-puts : goal.returns-in-Some-clause-puts
returns-in-Some-clause-puts c = λ t h.
    subst (λ o. EndsWith c.prepend.new.out c.prepend.result (ahead at_sign (userinfo (option_copied o) (option_copied c.args.password)) ++ t)) (sym c.in-Some.is)
    (subst (EndsWith c.prepend.new.out c.prepend.result) (user_put c.in-Some.username.now (following colon (option_copied c.args.password)) t)
    (c.prepend.ensures.puts _ (c.prepend_following-len.ensures.puts _ (c.prepend-len.ensures.puts t h))))
