-- What std's reader returns is the one address that the text spells.
use Rattle.std.proofs.Common.{ℕ, List, ap, sym, Some}
use Rattle.uriparse_text.specs.Address.{SpellsIpv6}
use Rattle.uriparse_text.proofs.lemmas.addresses.GrammarLemmas.{spells_from_colon_hex, colon_hex_from_spells}
use Rattle.uriparse_text.proofs.lemmas.addresses.ReadingLemmas.{SpellsIpv6-unique, ipv6_reading-spelled, ipv6_reading-none}
use Rattle.uriparse_text.proofs.address.ipv6.Ipv6Addr.parse_bytes.Goals as goal

pub returns-in-Ok : goal.returns-in-Ok
returns-in-Ok c =
    let spelled = spells_from_colon_hex _ _ c.in-Ok.ensures in
    rw (c.of.ensures, c.segments.ensures) (record {
      value = sym (ipv6_reading-spelled _ _ spelled);
      found = spelled;
      only = λ a also. ap Some (SpellsIpv6-unique _ _ _ spelled also);
    })

pub returns-in-Err : goal.returns-in-Err
returns-in-Err c =
    let never : (a : List ℕ) → ¬ (SpellsIpv6 c.args.bytes.now a) =
    λ a spelled. c.in-Err.ensures (record { segments = a }) (colon_hex_from_spells _ _ spelled) in
    record {
      value = sym (ipv6_reading-none _ never);
      found = tt;
      only = λ a spelled. absurd (never a spelled);
    }
