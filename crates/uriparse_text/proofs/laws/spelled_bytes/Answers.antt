use Rattle.uriparse_text.proofs.lemmas.addresses.ByteLemmas.{SpellsIpv4-bytes, SpellsIpv6-bytes, lacks-SpellsIpv4, lacks-SpellsIpv6, IsIn-SpellsIpv4}
use Rattle.uriparse_text.proofs.laws.spelled_bytes.Goals as goal

pub returns : goal.returns
returns c = record { ipv4 = SpellsIpv4-bytes; ipv6 = SpellsIpv6-bytes; ipv4_lacks = lacks-SpellsIpv4; ipv6_lacks = lacks-SpellsIpv6; name = IsIn-SpellsIpv4 }
