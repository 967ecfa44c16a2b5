use Rattle.std.proofs.Common.{◌≡◌, None, length, sym, rules}
use Rattle.uriparse_authority.specs.Authority.{cut_port}
use Rattle.uriparse_authority.proofs.lemmas.authorities.CutLemmas.{port_at_colon, host_at_colon, no_port_at_bracket, no_port_at_start, whole_host, following_front}
use Rattle.uriparse_authority.proofs.authority.read.split_port.Goals as goal
use Rattle.uriparse_authority.proofs.authority.read.split_port.Goals.{in-Some+else-last-eq58+then-last-eq93, in_default}

pub returns-then-last-eq58-clause-host : goal.returns-then-last-eq58-clause-host
returns-then-last-eq58-clause-host c =
    let kept = c.loop-last.invariant in
    sym (host_at_colon c.args.text.now c.loop-last.front.now c.in-Some.before.now kept.following c.in-Some.last.now kept.whole kept.plain c.in-Some.ensures.cases.0
    c.if-last-eq58.true)

pub returns-then-last-eq58-clause-port : goal.returns-then-last-eq58-clause-port
returns-then-last-eq58-clause-port c =
    let kept = c.loop-last.invariant in
    rw (c.split_at.ensures.back, following_front c.args.text.now c.loop-last.front.now kept.following kept.whole)
    (sym (port_at_colon c.args.text.now c.loop-last.front.now c.in-Some.before.now kept.following c.in-Some.last.now kept.whole kept.plain
    c.in-Some.ensures.cases.0 c.if-last-eq58.true))

none : (c : goal.Joined-split_last) → cut_port c.args.text.now ≡ None
none c =
    let kept = c.loop-last.invariant in
    elim c.match-split_last.branch [
      | in-Some+else-last-eq58+then-last-eq93 w ↦ no_port_at_bracket c.args.text.now c.loop-last.front.now w.in-Some.before.now kept.following w.in-Some.last.now
          kept.whole kept.plain w.in-Some.ensures.cases.0 w.if-last-eq93.true
      | in_default w ↦ (let empty : length c.loop-last.front.now ≡ 0 = search rules in no_port_at_start c.args.text.now c.loop-last.front.now kept.following
          kept.whole kept.plain empty)
    ]

pub returns-clause-host : goal.returns-clause-host
returns-clause-host c = sym (whole_host c.args.text.now (none c))

pub returns-clause-port : goal.returns-clause-port
returns-clause-port c = sym (none c)
