use Rattle.std.proofs.Common.{◌∷◌, ◌++◌, [], refl, sym, ap, ◌∙◌}
use Rattle.std.proofs.Output.{has_written_styled_append, has_written_styled_of_eq}
use Rattle.uriparse_text.specs.Bytes.{at_sign, colon}
use Rattle.uriparse_text.specs.Cuts.{ahead, following}
use Rattle.uriparse_authority.specs.Authority.{userinfo}
use Rattle.uriparse_authority.proofs.authority.print.write_user.Goals as goal

pub returns-in_ok-write_str-2-clause-styled : goal.returns-in_ok-write_str-2-clause-styled
returns-in_ok-write_str-2-clause-styled g c flush ok =
    let first = c.in_ok-write_str.ensures.styled flush refl in
    let second = c.in_ok-write_password.ensures.styled first.flush refl in
    let third = c.in_ok-write_str-2.ensures.styled second.flush refl in
    has_written_styled_of_eq _ _ _ _ _
    (ap (λ t. (t ++ following colon c.args.password.now) ++ at_sign ∷ []) c.as_str.ensures.value
    ∙ sym (ap (λ o. ahead at_sign (userinfo o c.args.password.now)) c.in-Some.is))
    (has_written_styled_append _ _ _ _ _ _ (has_written_styled_append _ _ _ _ _ _ first second) third)
