use Rattle.std.proofs.Common.{refl, sym, ap, ◌∙◌}
use Rattle.std.proofs.Output.{has_written_styled_append, has_written_styled_of_eq}
use Rattle.uriparse_authority.specs.Host.{bracketed, text}
use Rattle.uriparse_authority.proofs.authority.host.HostDisplay.fmt.Goals as goal

pub returns-in_ok-fmt-in-IPv6Address-clause-styled : goal.returns-in_ok-fmt-in-IPv6Address-clause-styled
returns-in_ok-fmt-in-IPv6Address-clause-styled g c flush ok =
    let first = c.in_ok-write_str-in-IPv6Address.ensures.styled flush refl in
    let second = c.in_ok-fmt-in-IPv6Address.ensures.styled first.flush refl in
    let third = c.write_str-in-IPv6Address.ensures.styled second.flush ok in
    has_written_styled_of_eq _ _ _ _ _ (sym (ap text c.in-IPv6Address.is))
    (has_written_styled_append _ _ _ _ _ _ first (has_written_styled_append _ _ _ _ _ _ second third))

pub returns-in_ok-write_str-in-IPvFuture-2-clause-styled : goal.returns-in_ok-write_str-in-IPvFuture-2-clause-styled
returns-in_ok-write_str-in-IPvFuture-2-clause-styled g c flush ok =
    let first = c.in_ok-write_str-in-IPvFuture.ensures.styled flush refl in
    let second = c.in_ok-write_str-in-IPvFuture-2.ensures.styled first.flush refl in
    let third = c.write_str-in-IPvFuture-3.ensures.styled second.flush ok in
    has_written_styled_of_eq _ _ _ _ _ (ap bracketed c.as_str.ensures.value ∙ sym (ap text c.in-IPvFuture.is))
    (has_written_styled_append _ _ _ _ _ _ first (has_written_styled_append _ _ _ _ _ _ second third))
