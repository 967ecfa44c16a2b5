use Rattle.std.proofs.Common.{sym, ◌∙◌}
use Rattle.uriparse_authority.proofs.lemmas.hosts.WithinLemmas.{escape-found, escape-other, escapes-nil}
use Rattle.uriparse.proofs.place_key.names.has_escape.Goals as goal

pub octets-preserved : goal.octets-preserved
octets-preserved c = escape-other c.in-Some.octet _ _ c.in-Some.ensures.cut c.if-octet-eq37.false ∙ c.octets.invariant

pub returns-then-octet-eq37 : goal.returns-then-octet-eq37
returns-then-octet-eq37 c = sym (escape-found c.in-Some.octet _ _ c.in-Some.ensures.cut c.if-octet-eq37.true) ∙ c.octets.invariant

pub returns : goal.returns
returns c = sym (escapes-nil c.octets.rest.now c.in_default.ensures.cut) ∙ c.octets.invariant
