use Rattle.std.proofs.Common.{◌≡◌, true, length}
use Rattle.uriparse_text.specs.Tokens.{is_well_formed}
use Rattle.uriparse.proofs.lemmas.PlaceNameLemmas.{IsTaken}
use Rattle.uriparse.proofs.place_key.names.split_label.Given as goal

abbrev pub invariant-octets : goal.invariant-octets
invariant-octets l = IsTaken l.text l.rest × (is_well_formed l.rest ≡ true)

abbrev pub decreases-octets : goal.decreases-octets
decreases-octets l = length l.rest
