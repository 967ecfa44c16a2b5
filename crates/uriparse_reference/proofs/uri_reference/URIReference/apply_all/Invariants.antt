use Rattle.std.proofs.Common.{◌≡◌, ◌+◌, length}
use Rattle.std.specs.Vec.Iter.{into_iter_items, into_iter_len}
use Rattle.uriparse_reference.proofs.lemmas.edits.EditLemmas.{Continues}
use Rattle.uriparse_reference.proofs.uri_reference.URIReference.apply_all.Given as goal

-- what the edits to come make of the value, all make of the first one
abbrev pub invariant-loop-edit : goal.invariant-loop-edit
invariant-loop-edit l =
    (goal.iterator-loop-edit).can_next l.edit-iterator ×
    (goal.iterator-loop-edit).is_finite l.edit-iterator ×
    Continues l.fn.self l.fn.edits.items l.self l.index (into_iter_items l.edit-iterator) ×
    (l.index + length (into_iter_items l.edit-iterator) ≡ length l.fn.edits.items) ×
    (length (into_iter_items l.edit-iterator) ≡ into_iter_len l.edit-iterator)
