use Rattle.std.proofs.Common.{◌<◌, false, sym, subst}
use Rattle.uriparse_text.specs.Ahead.{Knows}
use Rattle.uriparse_text.specs.Pairs.{is_among_names, pairs}
use Rattle.uriparse_text.proofs.lemmas.readings.AheadLemmas.{known_left}
use Rattle.uriparse_text.proofs.query.ahead.Ahead.next.Goals.{then-self, else-self}
use Rattle.uriparse_text.proofs.query.ahead.Ahead.next.Goals as goal

pub returns-clause-answer : goal.returns-clause-answer
returns-clause-answer c =
    (known_left (is_among_names (pairs c.args.names.now)) c.if-self.self c.args.left.now false
    (elim c.if-self.branch [
      | then-self w ↦ subst (λ a. Knows (is_among_names (pairs c.args.names.now)) a (pairs c.args.left.now) × (a.at < a.end)) (sym w.self-is)
          (w.look_ahead.ensures.knows, w.look_ahead.ensures.some)
      | else-self w ↦ subst (λ a. Knows (is_among_names (pairs c.args.names.now)) a (pairs c.args.left.now) × (a.at < a.end)) (sym w.self-is)
          (c.requires, w.if-self.false)
    ])).0

pub returns-clause-knows : goal.returns-clause-knows
returns-clause-knows c =
    (known_left (is_among_names (pairs c.args.names.now)) c.if-self.self c.args.left.now false
    (elim c.if-self.branch [
      | then-self w ↦ subst (λ a. Knows (is_among_names (pairs c.args.names.now)) a (pairs c.args.left.now) × (a.at < a.end)) (sym w.self-is)
          (w.look_ahead.ensures.knows, w.look_ahead.ensures.some)
      | else-self w ↦ subst (λ a. Knows (is_among_names (pairs c.args.names.now)) a (pairs c.args.left.now) × (a.at < a.end)) (sym w.self-is)
          (c.requires, w.if-self.false)
    ])).1
