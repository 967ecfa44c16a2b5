use Rattle.std.proofs.Common.{◌≡◌, true, length}
use Rattle.uriparse_text.specs.Tokens.{is_well_formed}
use Rattle.uriparse.proofs.lemmas.PlaceNameLemmas.{ArePut}
use Rattle.uriparse.proofs.place_key.names.prepend_labels.Given as goal

abbrev pub invariant-labels : goal.invariant-labels
invariant-labels l = record {
  room : length l.out ≡ length l.initial.out;
  formed : is_well_formed l.rest ≡ true;
  put : ArePut l.text l.rest l.initial.out l.initial.total l.out l.total;
}

abbrev pub decreases-labels : goal.decreases-labels
decreases-labels l = length l.rest
