use Rattle.std.proofs.Common.{◌++◌, ◌∷◌, ◌∙◌, ap, subst, sym}
use Rattle.uriparse_text.specs.Canonical.{canonical_lowered}
use Rattle.uriparse_text.specs.Ends.{EndsWith}
use Rattle.uriparse.specs.PlaceKey.{host_prefix}
use Rattle.uriparse.specs.SortKey.{digits, ended}
use Rattle.std.specs.List.{flat_map}
use Rattle.uriparse.proofs.lemmas.PlaceListLemmas.{ended-before}
use Rattle.uriparse.proofs.place_key.prepend_host_prefix.Goals as goal

pub returns-in-IPv4Address-clause-puts : goal.returns-in-IPv4Address-clause-puts
returns-in-IPv4Address-clause-puts c = λ t h.
    subst (EndsWith c.prepend.new.out c.prepend.result)
    (ap (λ u. 52 ∷ u) (sym (ended-before (flat_map (digits 16 2) c.in-IPv4Address.address) t)) ∙ ap (λ g. host_prefix g ++ t) (sym c.in-IPv4Address.is))
    (c.prepend.ensures.puts _ (c.prepend_octets-len.ensures.puts _ (c.prepend-len.ensures.puts t h)))

pub returns-in-IPv6Address-clause-puts : goal.returns-in-IPv6Address-clause-puts
returns-in-IPv6Address-clause-puts c = λ t h.
    subst (EndsWith c.prepend-in-IPv6Address.new.out c.prepend-in-IPv6Address.result)
    (ap (λ u. 54 ∷ u) (sym (ended-before (flat_map (digits 16 4) c.in-IPv6Address.address) t)) ∙ ap (λ g. host_prefix g ++ t) (sym c.in-IPv6Address.is))
    (c.prepend-in-IPv6Address.ensures.puts _ (c.prepend_segments-len.ensures.puts _ (c.prepend-len-in-IPv6Address.ensures.puts t h)))

pub returns-in-IPvFuture-clause-puts : goal.returns-in-IPvFuture-clause-puts
returns-in-IPvFuture-clause-puts c = λ t h.
    subst (EndsWith c.prepend-in-IPvFuture.new.out c.prepend-in-IPvFuture.result)
    (ap (λ u. (55 ∷ ended (canonical_lowered u)) ++ t) (c.as_bytes.ensures.value ∙ c.as_str.ensures.value) ∙ ap (λ g. host_prefix g ++ t) (sym c.in-IPvFuture.is))
    (c.prepend-in-IPvFuture.ensures.puts _ (c.prepend_ended-len.ensures.puts t h))
