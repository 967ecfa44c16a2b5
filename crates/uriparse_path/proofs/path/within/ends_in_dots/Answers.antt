use Rattle.std.proofs.Common.{sym, ◌∙◌}
use Rattle.uriparse_path.specs.Dots.{is_dot_segment}
use Rattle.uriparse_path.proofs.lemmas.left.NormalSegmentsLemmas.{last_of}
use Rattle.uriparse_path.proofs.path.within.ends_in_dots.Goals as goal

pub returns-in-Some : goal.returns-in-Some
returns-in-Some g c = c.is_dot_segment.ensures ∙ sym (last_of is_dot_segment _ _ c.in-Some.last c.in-Some.ensures)
