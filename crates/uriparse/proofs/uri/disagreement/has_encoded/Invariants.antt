use Rattle.std.proofs.Common.{◌≡◌, length}
use Rattle.std.specs.List.{list_any}
use Rattle.std.specs.Option.{option_copied}
use Rattle.uriparse.specs.Web.{has_encoded_label, is_encoded_label}
use Rattle.uriparse.proofs.lemmas.LabelLemmas.{labels_left}
use Rattle.uriparse.proofs.uri.disagreement.has_encoded.Given as goal

abbrev pub invariant-labels : goal.invariant-labels
invariant-labels l = list_any is_encoded_label (labels_left (option_copied l.left)) ≡ has_encoded_label l.name

abbrev pub decreases-labels : goal.decreases-labels
decreases-labels l = length (labels_left (option_copied l.left))
