use Rattle.std.proofs.Common.{subst}
use Rattle.std.specs.Option.{option_map}
use Rattle.uriparse_text.specs.declared.internal.token.Case.TheVariants.{Kept}
use Rattle.uriparse_text.specs.Ends.{EndsWith, formed}
use Rattle.uriparse_authority.proofs.lemmas.authorities.EndLemmas.{user_text}
use Rattle.uriparse_authority.proofs.authority.write.prepend_user.Goals as goal

pub returns-in-Some-clause-puts : goal.returns-in-Some-clause-puts
returns-in-Some-clause-puts c = λ t h.
    subst (EndsWith c.prepend_formed.new.out c.prepend_formed.result)
    (user_text c.args.form c.args.username.now (option_map (formed c.args.form Kept) c.args.password.now) _ c.as_bytes.result.now t c.in-Some.is
    c.as_bytes.ensures.value)
    (c.prepend_formed.ensures.puts _ (c.prepend_following-len.ensures.puts _ (c.prepend-len.ensures.puts t h)))
