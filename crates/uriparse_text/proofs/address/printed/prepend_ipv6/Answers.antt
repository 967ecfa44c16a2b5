use Rattle.std.proofs.Common.{◌≡◌, ◌++◌, ◌∙◌, codes, drop, refl, sym, ap, subst}
use Rattle.std.proofs.lemmas.Bool.{false≢true}
use Rattle.std.specs.Net.Addr.{IsIpv4Mapped, octets_of}
use Rattle.std.specs.Net.Text.{hex_groups_text}
use Rattle.uriparse_text.specs.Address.{ipv4_text, ipv6_text}
use Rattle.uriparse_text.specs.Ends.{EndsWith}
use Rattle.uriparse_text.proofs.lemmas.addresses.PutLemmas.{mapped_text, other_text}
use Rattle.uriparse_text.proofs.address.printed.prepend_ipv6.Goals as goal

pub returns-in-Some-clause-puts : goal.returns-in-Some-clause-puts
returns-in-Some-clause-puts c = λ t h.
    let a = c.args.address in
    let segments = c.from_segments.ensures ∙ c.segments-segments.ensures.value in
    let mapped : IsIpv4Mapped a = subst IsIpv4Mapped segments (c.in-Some.ensures.found.0 refl) in
    let octets : c.octets.result ≡ octets_of (drop 6 a) = c.octets.ensures ∙ c.in-Some.ensures.value ∙ ap (λ s. octets_of (drop 6 s)) segments in
    let same : ipv6_text a ++ t ≡ codes "::ffff:" ++ (ipv4_text c.octets.result ++ t) =
    ap (λ u. u ++ t) (mapped_text a mapped ∙ ap (λ o. codes "::ffff:" ++ ipv4_text o) (sym octets)) in
    subst (EndsWith c.prepend.new.out c.prepend.result) (sym same) (c.prepend.ensures.puts _ (c.prepend_dotted-len.ensures.puts t h))

pub returns-in-None-clause-puts : goal.returns-in-None-clause-puts
returns-in-None-clause-puts c = λ t h.
    let a = c.args.address in
    let segments = c.from_segments.ensures ∙ c.segments-segments.ensures.value in
    let other : IsIpv4Mapped a → ⊥ = λ mapped. false≢true (c.in-None.ensures.found.1 (subst IsIpv4Mapped (sym segments) mapped)) in
    subst (λ u. EndsWith c.prepend_shortened.new.out c.prepend_shortened.result (u ++ t))
    (ap hex_groups_text c.segments-segments.ensures.value ∙ sym (other_text a other)) (c.prepend_shortened.ensures.puts t h)
