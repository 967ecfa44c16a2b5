use Rattle.std.proofs.Common.{◌≡◌, ◌∷◌, rules}
use Rattle.std.proofs.lemmas.List.{take_rest}
use Rattle.uriparse_text.proofs.lemmas.canonical.ComparisonLemmas.{unreserved_front, escape_front, byte_front}
use Rattle.uriparse_text.proofs.internal.equivalence.split_code.Goals as goal

pub returns-then-is_unreserved-clause-cut : goal.returns-then-is_unreserved-clause-cut
returns-then-is_unreserved-clause-cut c =
    let front : c.args.text.now ≡ c.in_ok-b.field-0-0.now ∷ c.in_ok-b.after.now = search rules in
    rw (
      take_rest c.in_ok-b.after.now 2,
      c.of.ensures,
    ) (unreserved_front c.args.case c.args.text.now _ c.in_ok-b.after.now c.in-Some.v front c.in-Some.ensures (cc) (search rules))

pub returns-else-is_unreserved-clause-cut : goal.returns-else-is_unreserved-clause-cut
returns-else-is_unreserved-clause-cut c =
    let front : c.args.text.now ≡ c.in_ok-b.field-0-0.now ∷ c.in_ok-b.after.now = search rules in
    rw (take_rest c.in_ok-b.after.now 2) (escape_front c.args.case c.args.text.now _ c.in_ok-b.after.now c.in-Some.v front c.in-Some.ensures (cc))

pub returns-in-None-clause-cut : goal.returns-in-None-clause-cut
returns-in-None-clause-cut c =
    let front : c.args.text.now ≡ c.in_ok-b.field-0-0.now ∷ c.in_ok-b.after.now = search rules in
    rw (c.of-in-None.ensures) (byte_front c.args.case c.args.text.now _ c.in_ok-b.after.now front c.in-None.ensures (search rules))
