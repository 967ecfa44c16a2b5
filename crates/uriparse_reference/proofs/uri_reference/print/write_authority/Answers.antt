use Rattle.std.proofs.Common.{refl, sym, ap}
use Rattle.std.proofs.Output.{has_written_styled_append, has_written_styled_of_eq}
use Rattle.std.specs.Option.{option_map}
use Rattle.uriparse_authority.specs.Authority as authority
use Rattle.uriparse_reference.specs.Reference.{after_slashes}
use Rattle.uriparse_reference.proofs.uri_reference.print.write_authority.Goals as goal

pub returns-in_ok-fmt-clause-styled : goal.returns-in_ok-fmt-clause-styled
returns-in_ok-fmt-clause-styled g c flush ok =
    let first = c.in_ok-write_str.ensures.styled flush refl in
    let second = c.in_ok-fmt.ensures.styled first.flush refl in
    has_written_styled_of_eq _ _ _ _ _ (sym (ap (λ o. after_slashes (option_map authority.print o)) c.in-Some.is))
    (has_written_styled_append _ _ _ _ _ _ first second)
