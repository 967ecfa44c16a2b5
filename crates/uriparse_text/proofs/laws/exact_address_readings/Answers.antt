use Rattle.uriparse_text.proofs.lemmas.addresses.ReadingLemmas.{ipv4_reading-exact, ipv6_reading-exact}
use Rattle.uriparse_text.proofs.laws.exact_address_readings.Goals as goal

pub returns : goal.returns
returns c = record { ipv4 = ipv4_reading-exact; ipv6 = ipv6_reading-exact }
