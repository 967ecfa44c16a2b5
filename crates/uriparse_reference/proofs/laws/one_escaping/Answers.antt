use Rattle.std.proofs.Common.{◌∙◌}
use Rattle.uriparse_reference.specs.Escaped.{escaped}
use Rattle.uriparse_reference.proofs.lemmas.reading.EscapedLemmas.{escaped_cut, escaped_again, faultless_stays, fault-escaped}
use Rattle.uriparse_reference.proofs.lemmas.reading.EscapedTokenLemmas.{escaped_well_formed}
use Rattle.uriparse_reference.proofs.lemmas.reading.FaultSourceLemmas.{never_slashes}
use Rattle.uriparse_reference.proofs.laws.one_escaping.Goals as goal

pub returns : goal.returns
returns c = record {
  scheme = λ t. (escaped_cut t).scheme;
  authority = λ t. (escaped_cut t).authority;
  path = λ t. (escaped_cut t).path;
  query = λ t. (escaped_cut t).query;
  fragment = λ t. (escaped_cut t).fragment;
  kept = faultless_stays;
  twice = escaped_again;
  formed = escaped_well_formed;
  left = fault-escaped;
  never = λ t h. never_slashes (escaped t) (fault-escaped t ∙ h);
}
