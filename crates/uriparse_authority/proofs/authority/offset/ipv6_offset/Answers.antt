use Rattle.std.proofs.Common.{◌≡◌, Some, length, ap, ◌∙◌, rules}
use Rattle.std.specs.Prelude.{not, unwrap_or}
use Rattle.std.specs.List.{position_or_len}
use Rattle.uriparse_text.specs.Address.{is_ipv6_byte}
use Rattle.uriparse_text.proofs.lemmas.readings.CutLemmas.{offset_or_length}
use Rattle.uriparse_authority.specs.Host.{in_brackets}
use Rattle.uriparse_authority.proofs.lemmas.authorities.OffsetLemmas.{bracket_offset}
use Rattle.uriparse_authority.proofs.authority.offset.ipv6_offset.Goals as goal

pub returns-in-Some : goal.returns-in-Some
returns-in-Some c =
    let text = c.args.text.now in
    let inner = c.in-Some.inner.now in
    let is : in_brackets text ≡ Some inner = search rules in
    let offset : c.unwrap_or.result ≡ position_or_len (λ b. not (is_ipv6_byte b)) inner =
    c.unwrap_or.ensures ∙ ap (λ o. unwrap_or o (length inner)) c.other_in_ipv6.ensures ∙ offset_or_length (λ b. not (is_ipv6_byte b)) inner in
    let both = bracket_offset is_ipv6_byte text inner c.unwrap_or.result is offset in
    record { offset = both.0; within = both.1 }
