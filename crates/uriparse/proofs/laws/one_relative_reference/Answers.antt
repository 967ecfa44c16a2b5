use Rattle.std.proofs.Common.{ap}
use Rattle.uriparse_reference.proofs.lemmas.edits.EditLemmas.{own_parts}
use Rattle.uriparse.specs.Kinds.{with_mapped_error}
use Rattle.uriparse.specs.RelativeReference.{map_error}
use Rattle.uriparse.proofs.laws.one_relative_reference.Goals as goal

pub returns : goal.returns
returns c = record { parts = λ p v k. ap (with_mapped_error map_error) (own_parts p v); built = λ p v k. ap (with_mapped_error map_error) (own_parts p v) }
