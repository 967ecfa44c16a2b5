use Rattle.std.proofs.Common.{sym, refl}
use Rattle.std.proofs.Output.{has_written_styled_append, has_written_styled_of_eq}
use Rattle.uriparse_path.proofs.path.PathDisplay.fmt.Goals as goal

pub returns-clause-styled : goal.returns-clause-styled
returns-clause-styled g c flush ok =
    let first = c.in_ok-write_str.ensures.styled flush refl in
    let second = c.write_after_slashes.ensures.styled first.flush ok in
    has_written_styled_of_eq _ _ _ _ _ (sym c.split_front.ensures.text) (has_written_styled_append _ _ _ _ _ _ first second)
