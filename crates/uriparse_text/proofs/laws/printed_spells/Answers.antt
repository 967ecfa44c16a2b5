use Rattle.uriparse_text.proofs.lemmas.addresses.Ipv4Lemmas.{IsOctets-SpellsIpv4, printed_alone}
use Rattle.uriparse_text.proofs.lemmas.addresses.ReadingLemmas.{SpellsIpv4-ipv4_text, SpellsIpv6-ipv6_text}
use Rattle.uriparse_text.proofs.lemmas.addresses.PrintedLemmas.{IsPrintedIpv6-ipv6_text}
use Rattle.uriparse_text.proofs.laws.printed_spells.Goals as goal

pub returns : goal.returns
returns c = record {
  ipv4 = SpellsIpv4-ipv4_text;
  ipv4_alone = λ text a h. (IsOctets-SpellsIpv4 text a h, printed_alone text a h);
  ipv6 = SpellsIpv6-ipv6_text;
  form = IsPrintedIpv6-ipv6_text;
}
