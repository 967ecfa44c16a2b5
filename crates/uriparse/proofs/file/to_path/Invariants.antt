use Rattle.std.proofs.Common.{◌≡◌, None, take}
use Rattle.uriparse.specs.File.{joined_names, names_fault, names_of}
use Rattle.uriparse.proofs.file.to_path.Given as goal

abbrev pub invariant-loop-segment : goal.invariant-loop-segment
invariant-loop-segment l =
    (l.path.items ≡ joined_names (names_of (take l.segment-index l.segment-items)))
    × (names_fault (names_of (take l.segment-index l.segment-items)) ≡ None)
