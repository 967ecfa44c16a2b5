use Rattle.std.proofs.Common.{◌≢◌, All, subst, arith}
use Rattle.uri_commands.proofs.LineLemmas.{none_held, none_taken}
use Rattle.uri_commands.proofs.lines.take_whole.Goals as goal

pub returns-then-offset-held-clause-held : goal.returns-then-offset-held-clause-held
returns-then-offset-held-clause-held g c = λ _.
    let held = c.buffer-held.result.now in
    let none : All (λ b. b ≢ c.args.end) held = none_held c.args.end held c.first-offset.result c.first-offset.ensures.offset
    (omega (arith, c.if-offset-held.true)) in
    subst (λ t. All (λ b. b ≢ c.args.end) t) c.buffer-held.ensures none

pub returns-clause-clean : goal.returns-clause-clean
returns-clause-clean g c =
    none_taken c.args.end c.buffer-held.result.now _ _ c.first-offset.result c.first-offset.ensures.offset c.requires
    c.in_ok-append_front.ensures.ok
