-- What std's reader returns is the one address that the text spells.
use Rattle.std.proofs.Common.{ℕ, List, ap, sym, Some}
use Rattle.uriparse_text.specs.Address.{SpellsIpv4}
use Rattle.uriparse_text.proofs.lemmas.addresses.Ipv4Lemmas.{spells_from_dotted, dotted_from_spells}
use Rattle.uriparse_text.proofs.lemmas.addresses.ReadingLemmas.{SpellsIpv4-unique, ipv4_reading-spelled, ipv4_reading-none}
use Rattle.uriparse_text.proofs.address.ipv4.Ipv4Addr.parse_bytes.Goals as goal

pub returns-in-Ok : goal.returns-in-Ok
returns-in-Ok c =
    let spelled = spells_from_dotted _ _ c.in-Ok.ensures in
    rw c.octets.ensures (record {
      value = sym (ipv4_reading-spelled _ _ spelled);
      found = spelled;
      only = λ a also. ap Some (SpellsIpv4-unique _ _ _ spelled also);
    })

pub returns-in-Err : goal.returns-in-Err
returns-in-Err c =
    let never : (a : List ℕ) → ¬ (SpellsIpv4 c.args.bytes.now a) = λ a spelled. c.in-Err.ensures (record { octets = a }) (dotted_from_spells _ _ spelled) in
    record {
      value = sym (ipv4_reading-none _ never);
      found = tt;
      only = λ a spelled. absurd (never a spelled);
    }

pub returns-then-begins_as_name : goal.returns-then-begins_as_name
returns-then-begins_as_name c =
    let never = c.begins_as_name.ensures c.if-begins_as_name.true in
    record {
      value = sym (ipv4_reading-none _ never);
      found = tt;
      only = λ a spelled. absurd (never a spelled);
    }
