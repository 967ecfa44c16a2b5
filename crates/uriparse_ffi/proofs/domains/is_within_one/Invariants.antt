use Rattle.std.proofs.Common.{length}
use Rattle.std.specs.Option.{option_copied}
use Rattle.uriparse_ffi.specs.Domains.{domains, domains_left}
use Rattle.uriparse_ffi.proofs.lemmas.DomainLemmas.{IsFoundSo, split_left}
use Rattle.uriparse_ffi.proofs.domains.is_within_one.Given as goal

abbrev pub invariant-domains : goal.invariant-domains
invariant-domains l = IsFoundSo l.view.parts (domains l.domains) (domains_left (option_copied l.left)) l.is_within

abbrev pub decreases-domains : goal.decreases-domains
decreases-domains l = length (split_left (option_copied l.left))
