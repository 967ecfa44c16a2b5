use Rattle.std.proofs.Common.{◌≡◌, ◌++◌, length}
use Rattle.std.specs.Vec.Iter.{into_iter_items, into_iter_len}
use Rattle.uriparse_path.proofs.path.copy.owned_segments.Given as goal

-- the segments that are copied, and those that are left
abbrev pub invariant-loop-segment : goal.invariant-loop-segment
invariant-loop-segment l =
    (goal.iterator-loop-segment).can_next l.segment-iterator ×
    (goal.iterator-loop-segment).is_finite l.segment-iterator ×
    (l.owned.items ++ into_iter_items l.segment-iterator ≡ l.fn.segments.items) ×
    (length (into_iter_items l.segment-iterator) ≡ into_iter_len l.segment-iterator)
