use Rattle.std.proofs.Common.{◌≡◌, map, length}
use Rattle.std.specs.Vec.Iter.{into_iter_items, into_iter_len}
use Rattle.uriparse_text.specs.Canonical.{canonical}
use Rattle.uriparse_path.proofs.lemmas.normal.CanonicalCopyLemmas.{AreWithin, with_copies}
use Rattle.uriparse_path.proofs.path.normal.put_copies.Given as goal

-- with the copies that are left, each segment is canonical
abbrev pub invariant-loop-at : goal.invariant-loop-at
invariant-loop-at l =
    (goal.iterator-loop-at).can_next l.at-iterator ×
    (goal.iterator-loop-at).is_finite l.at-iterator ×
    (with_copies (into_iter_items l.at-iterator) l.segments ≡ map canonical l.fn.segments) ×
    AreWithin (into_iter_items l.at-iterator) (length l.segments) ×
    (length (into_iter_items l.at-iterator) ≡ into_iter_len l.at-iterator)
