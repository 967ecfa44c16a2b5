use Rattle.std.proofs.Common.{sym, ◌∙◌}
use Rattle.uriparse_authority.proofs.lemmas.hosts.WithinLemmas.{empties-nil, empty-step}
use Rattle.uriparse.proofs.place_key.names.has_empty_label.Goals as goal

pub octets-preserved : goal.octets-preserved
octets-preserved c = empty-step c.in-Some.octet _ _ c.in-Some.ensures.cut c.octets.begins c.else-begins.either ∙ c.octets.invariant

pub returns : goal.returns
returns c = sym (empties-nil c.octets.begins c.octets.rest.now c.in_default.ensures.cut) ∙ c.octets.invariant
