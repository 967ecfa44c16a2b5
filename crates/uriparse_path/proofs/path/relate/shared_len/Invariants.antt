use Rattle.std.proofs.Common.{◌≡◌, ◌-◌, ◌<◌, ◌≤◌, length, drop}
use Rattle.uriparse_path.specs.Relate.{apart}
use Rattle.uriparse_path.proofs.path.relate.shared_len.Given as goal

abbrev pub invariant-directories : goal.invariant-directories
invariant-directories l =
    (apart l.directories l.segments ≡ apart (drop l.shared l.directories) (drop l.shared l.segments))
    × (l.shared ≤ length l.directories) × (l.shared < length l.segments)

abbrev pub decreases-directories : goal.decreases-directories
decreases-directories l = length l.directories - l.shared
