use Rattle.std.proofs.Common.{append-nil, ap, subst, ◌∙◌}
use Rattle.std.specs.Prelude.{is_some}
use Rattle.uriparse_text.specs.Address.{ipv4_reading}
use Rattle.uriparse_text.specs.Canonical.{canonical_lowered}
use Rattle.uriparse_text.specs.Ends.{EndsWith}
use Rattle.uriparse_authority.proofs.lemmas.authorities.SameTextLemmas.{ends_empty}
use Rattle.uriparse_authority.proofs.lemmas.hosts.NameWithinLemmas.{address_long, address_put}
use Rattle.uriparse.proofs.place_key.names.spells_address.Goals as goal

pub returns-then-len-le15 : goal.returns-then-len-le15
returns-then-len-le15 c =
    let t = canonical_lowered c.args.text.now in
    let ends = subst (EndsWith c.prepend_formed-len.new.out c.prepend_formed-len.result) (append-nil t) (c.prepend_formed-len.ensures.puts _ (ends_empty _)) in
    c.is_some.ensures ∙ ap is_some c.parse_bytes.ensures.value
    ∙ ap (λ u. is_some (ipv4_reading u)) (address_put c.prepend_formed-len.new.out t c.prepend_formed-len.result ends c.prepend_formed-len.ensures.room c.if-len-le15.true)

pub returns-else-len-le15 : goal.returns-else-len-le15
returns-else-len-le15 c =
    let t = canonical_lowered c.args.text.now in
    let ends = subst (EndsWith c.prepend_formed-len.new.out c.prepend_formed-len.result) (append-nil t) (c.prepend_formed-len.ensures.puts _ (ends_empty _)) in
    address_long c.prepend_formed-len.new.out t c.prepend_formed-len.result ends c.if-len-le15.false
