use Rattle.std.proofs.Common.{◌++◌, Some, sym, subst}
use Rattle.std.specs.Option.{option_copied, option_map}
use Rattle.uriparse_text.specs.Bytes.{at_sign, colon}
use Rattle.uriparse_text.specs.Cuts.{ahead, following}
use Rattle.uriparse_text.specs.Ends.{EndsWith}
use Rattle.uriparse_authority.specs.Authority.{userinfo}
use Rattle.uriparse_reference.specs.Change.{authority_whole}
use Rattle.uriparse_reference.specs.Reference.{after_slashes}
use Rattle.uriparse_reference.proofs.lemmas.writing.ChangedEndLemmas.{authority_put}
use Rattle.uriparse_reference.proofs.uri_reference.view.change.prepend_authority.Goals as goal

pub returns-in-Some-clause-puts : goal.returns-in-Some-clause-puts
returns-in-Some-clause-puts c = λ t h.
    let a = c.strings.inside in
    let user = ahead at_sign (userinfo (option_copied a.username) (option_copied a.password)) in
    let port = following colon (option_copied a.port) in
    subst (λ o. EndsWith c.prepend.new.out c.prepend.result (after_slashes (option_map authority_whole o) ++ t)) (sym c.in-Some.is)
    (subst (λ s. EndsWith c.prepend.new.out c.prepend.result (after_slashes (option_map authority_whole (Some s)) ++ t)) c.strings.view_is
    (subst (EndsWith c.prepend.new.out c.prepend.result) (authority_put user a.host.now port t)
    (c.prepend.ensures.puts _ (c.prepend_user-len.ensures.puts _ (c.prepend-len.ensures.puts _ (c.prepend_following-len.ensures.puts t h))))))
