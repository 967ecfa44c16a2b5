use Rattle.std.proofs.Common.{◌≡◌, cond, drop, length}
use Rattle.std.specs.List.{list_any, slice_split}
use Rattle.uriparse_text.specs.Canonical.{canonical_lowered}
use Rattle.uriparse_authority.specs.Within.{is_dot, is_empty}
use Rattle.uriparse.proofs.place_key.names.has_empty_label.Given as goal

abbrev pub invariant-octets : goal.invariant-octets
invariant-octets l =
    let left = slice_split is_dot (canonical_lowered l.rest) in
    list_any is_empty (cond l.begins left (drop 1 left)) ≡ list_any is_empty (slice_split is_dot (canonical_lowered l.text))

abbrev pub decreases-octets : goal.decreases-octets
decreases-octets l = length l.rest
