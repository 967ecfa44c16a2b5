use Rattle.std.proofs.Common.{refl, ap}
use Rattle.std.proofs.Output.{has_written_styled_append, has_written_styled_of_eq}
use Rattle.uriparse_authority.specs.Authority.{print}
use Rattle.uriparse_authority.proofs.authority.AuthorityDisplay.fmt.Goals as goal

pub returns-clause-styled : goal.returns-clause-styled
returns-clause-styled g c flush ok =
    let first = c.in_ok-write_user.ensures.styled flush refl in
    let second = c.in_ok-fmt.ensures.styled first.flush refl in
    let third = c.write_port.ensures.styled second.flush ok in
    has_written_styled_of_eq _ _ _ _ _ (ap print c.self.view_is) (has_written_styled_append _ _ _ _ _ _ first
    (has_written_styled_append _ _ _ _ _ _ second third))
