use Rattle.std.proofs.Common.{sym, refl, rules, true, false}
use Rattle.uriparse_authority.proofs.lemmas.hosts.HostLemmas.{closed_by_last}
use Rattle.uriparse_authority.proofs.authority.host.read.before_closing.Goals as goal

pub returns-then-last-eq93 : goal.returns-then-last-eq93
returns-then-last-eq93 c =
    let cases = c.in_ok-last.ensures.cases in
    sym (closed_by_last c.args.bytes.now c.in_ok-last.inner.now c.in_ok-last.last.now true cases.0 (rw c.if-last-eq93.true refl))

pub returns-else-last-eq93 : goal.returns-else-last-eq93
returns-else-last-eq93 c =
    let cases = c.in_ok-last.ensures.cases in
    sym (closed_by_last c.args.bytes.now c.in_ok-last.inner.now c.in_ok-last.last.now false cases.0 (search rules))
