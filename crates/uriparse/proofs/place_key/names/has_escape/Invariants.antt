use Rattle.std.proofs.Common.{◌≡◌, length}
use Rattle.uriparse_text.specs.Canonical.{canonical_lowered}
use Rattle.uriparse_authority.specs.Within as spec
use Rattle.uriparse.proofs.place_key.names.has_escape.Given as goal

abbrev pub invariant-octets : goal.invariant-octets
invariant-octets l = spec.has_escape (canonical_lowered l.rest) ≡ spec.has_escape (canonical_lowered l.text)

abbrev pub decreases-octets : goal.decreases-octets
decreases-octets l = length l.rest
