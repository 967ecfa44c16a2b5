use Rattle.std.proofs.Common.{◌≡◌, ◌≤◌, true, drop, length}
use Rattle.std.specs.List.{count_by, slice_split}
use Rattle.uriparse_text.specs.Canonical.{canonical_lowered}
use Rattle.uriparse_text.specs.Tokens.{is_well_formed}
use Rattle.uriparse_authority.specs.Within.{is_dot}
use Rattle.uriparse_authority.proofs.authority.within.skip_labels.Given as goal

abbrev pub invariant-octets : goal.invariant-octets
invariant-octets l =
    (drop l.left (slice_split is_dot (canonical_lowered l.rest)) ≡ drop l.count (slice_split is_dot (canonical_lowered l.text)))
    × (l.left ≤ count_by is_dot (canonical_lowered l.rest))
    × (is_well_formed l.rest ≡ true)

abbrev pub decreases-octets : goal.decreases-octets
decreases-octets l = length l.rest
