use Rattle.std.proofs.Common.{refl, ap}
use Rattle.std.proofs.Output.{has_written_styled_append, has_written_styled_of_eq}
use Rattle.uriparse_reference.specs.Reference.{print}
use Rattle.uriparse_reference.proofs.uri_reference.URIReferenceDisplay.fmt.Goals as goal

pub returns-clause-styled : goal.returns-clause-styled
returns-clause-styled g c flush ok =
    let first = c.in_ok-write_scheme.ensures.styled flush refl in
    let second = c.in_ok-write_authority.ensures.styled first.flush refl in
    let third = c.write_back.ensures.styled second.flush ok in
    has_written_styled_of_eq _ _ _ _ _ (ap print c.self.view_is)
    (has_written_styled_append _ _ _ _ _ _ first (has_written_styled_append _ _ _ _ _ _ second third))
