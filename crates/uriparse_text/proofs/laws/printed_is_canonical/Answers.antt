use Rattle.uriparse_text.proofs.lemmas.addresses.CanonicalLemmas.{canonical_in-ipv4_text, canonical_in-ipv6_text, canonical_in-bracketed}
use Rattle.uriparse_text.proofs.laws.printed_is_canonical.Goals as goal

pub returns : goal.returns
returns c = record { ipv4 = canonical_in-ipv4_text; ipv6 = canonical_in-ipv6_text; bracketed = canonical_in-bracketed }
