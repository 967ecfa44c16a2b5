use Rattle.std.proofs.Common.{◌≡◌}
use Rattle.uriparse_path.specs.Dots.{all_but_last, has_dot_segment}
use Rattle.uriparse_reference.proofs.lemmas.writing.RelativePathLemmas.{found_before}
use Rattle.uriparse_reference.proofs.uri_reference.view.relativize.path.has_dots_before_last.Given as goal

abbrev pub invariant-loop-segment : goal.invariant-loop-segment
invariant-loop-segment l =
    goal.iterator-loop-segment.can_next l.segment-iterator × goal.iterator-loop-segment.is_finite l.segment-iterator
    × (found_before l.found l.segment-iterator ≡ has_dot_segment (all_but_last l.fn.segments))
