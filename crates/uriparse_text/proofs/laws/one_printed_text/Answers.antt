use Rattle.uriparse_text.proofs.lemmas.addresses.ReadingLemmas.{ipv4_text-injective, ipv6_text-injective, ipv4_text-not_ipv6_text}
use Rattle.uriparse_text.proofs.laws.one_printed_text.Goals as goal

pub returns : goal.returns
returns c = record { ipv4 = ipv4_text-injective; ipv6 = ipv6_text-injective; kinds = ipv4_text-not_ipv6_text }
