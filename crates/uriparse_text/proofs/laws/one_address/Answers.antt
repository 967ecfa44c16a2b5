use Rattle.uriparse_text.proofs.lemmas.addresses.ReadingLemmas.{SpellsIpv4-unique, SpellsIpv6-unique, SpellsIpv4-not_ipv6}
use Rattle.uriparse_text.proofs.laws.one_address.Goals as goal

pub returns : goal.returns
returns c = record { ipv4 = SpellsIpv4-unique; ipv6 = SpellsIpv6-unique; kinds = SpellsIpv4-not_ipv6 }
