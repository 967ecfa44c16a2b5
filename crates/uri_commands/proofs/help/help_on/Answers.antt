use Rattle.std.proofs.Common.{inr, subst, sym, ◌∙◌}
use Rattle.std.specs.Io.KnownBytes.{Appends}
use Rattle.uri_commands.proofs.HelpLemmas.{helped, no_name, not_helped, other_name, same_name}
use Rattle.uri_commands.proofs.help.help_on.Goals as goal

pub returns-then-eq : goal.returns-then-eq
returns-then-eq g c =
    let same = same_name c.args.name.now c.topics.place c.topic.result c.in-Some.field-0 c.topic.ensures.topic c.in-Some.is (sym c.eq.ensures ∙ c.if-eq.true) c.topics.invariant.left in (
      c.in-Some.field-0.now.1.now,
      helped c.args.name.now c.in-Some.field-0.now.1.now same,
      subst (λ o. Appends o (g.O.Write.contents c.write_all.new.self) c.in-Some.field-0.now.1.now) c.topics.invariant.kept
          (subst (Appends (g.O.Write.contents c.topics.out) _) c.as_bytes.ensures.value c.in_ok-write_all.ensures.bytes),
    )

pub topics-preserved : goal.topics-preserved
topics-preserved g c = record {
  left = other_name c.args.name.now c.topics.place c.topic.result c.in-Some.field-0 c.topic.ensures.topic c.in-Some.is (sym c.eq.ensures ∙ c.if-eq.false) c.topics.invariant.left;
  kept = c.topics.invariant.kept;
}

pub returns : goal.returns
returns g c = inr (not_helped c.args.name.now (no_name c.args.name.now c.topics.place c.topic.result c.topic.ensures.topic c.in_default.is c.topics.invariant.left), c.topics.invariant.kept)
