use Rattle.std.proofs.Common.{inl, refl}
use Rattle.uriparse_authority.proofs.lemmas.hosts.WithinLawLemmas.{within_again, within_bytes, within_equals, within_escaped, within_hidden, within_kinds, within_labels}
use Rattle.uriparse_authority.proofs.laws.within_domains.Goals as goal

pub returns : goal.returns
returns c = record {
  itself = λ h. inl refl;
  again = within_again;
  equals = within_equals;
  kinds = within_kinds;
  hidden = within_hidden;
  escaped = within_escaped;
  labels = within_labels;
  bytes = within_bytes;
}
