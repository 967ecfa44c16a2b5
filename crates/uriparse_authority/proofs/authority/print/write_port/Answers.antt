use Rattle.std.proofs.Common.{refl, sym, ap}
use Rattle.std.proofs.Output.{has_written_styled_append, has_written_styled_of_eq}
use Rattle.std.specs.Option.{option_map}
use Rattle.uriparse_text.specs.Bytes.{colon}
use Rattle.uriparse_text.specs.Cuts.{following}
use Rattle.uriparse_authority.specs.Port as port
use Rattle.uriparse_authority.proofs.authority.print.write_port.Goals as goal

pub returns-in_ok-write_plain-clause-styled : goal.returns-in_ok-write_plain-clause-styled
returns-in_ok-write_plain-clause-styled g c flush ok =
    let first = c.in_ok-write_str.ensures.styled flush refl in
    let second = c.in_ok-write_plain.ensures.styled first.flush refl in
    has_written_styled_of_eq _ _ _ _ _ (sym (ap (λ o. following colon (option_map port.text o)) c.in-Some.is)) (has_written_styled_append _ _ _ _ _ _ first second)
