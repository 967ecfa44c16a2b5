use Rattle.std.proofs.Common.{◌≡◌, ◌+◌, ◌≤◌, length}
use Rattle.std.specs.List.{count_by}
use Rattle.uriparse_text.specs.Canonical.{canonical_lowered}
use Rattle.uriparse_authority.specs.Within.{is_dot}
use Rattle.uriparse_authority.proofs.authority.within.dot_count.Given as goal

abbrev pub invariant-octets : goal.invariant-octets
invariant-octets l =
    (l.count + length l.rest ≤ length l.text)
    × (l.count + count_by is_dot (canonical_lowered l.rest) ≡ count_by is_dot (canonical_lowered l.text))

abbrev pub decreases-octets : goal.decreases-octets
decreases-octets l = length l.rest
