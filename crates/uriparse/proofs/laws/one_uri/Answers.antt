use Rattle.std.proofs.Common.{true, ap, ◌∙◌}
use Rattle.uriparse_text.specs.Readings.{◌>>=◌}
use Rattle.uriparse_reference.proofs.lemmas.edits.EditLemmas.{own_parts}
use Rattle.uriparse.specs.declared.uri.error.URIError.TheVariants as errors
use Rattle.uriparse.specs.Kinds.{with_mapped_error, of_kind}
use Rattle.uriparse.specs.Uri.{map_error, map_built_error}
use Rattle.uriparse.proofs.lemmas.KindLemmas.{of_its_kind}
use Rattle.uriparse.proofs.laws.one_uri.Goals as goal

pub returns : goal.returns
returns c = record {
  parts = λ p v k. ap (with_mapped_error map_error) (own_parts p v);
  built = λ p v k. ap (λ r. with_mapped_error map_built_error r >>= of_kind true errors.MissingScheme) (own_parts p v) ∙ of_its_kind true errors.MissingScheme p k;
}
