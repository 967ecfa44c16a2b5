use Rattle.std.proofs.Common.{◌+◌, ◌-◌, length, sym, ◌∙◌, arith, rules}
use Rattle.uriparse_text.specs.Escapes.{NoneChanged, Raises}
use Rattle.uriparse_text.proofs.lemmas.canonical.ChangedLemmas.{none_at_all}
use Rattle.uriparse_text.proofs.internal.canonical_escape.raise_digits.Goals as goal

pub returns : goal.returns
returns c =
    let new = c.raise_marked-2.new.text in
    let before : Raises c.args.text.now c.runs.text = search rules in
    let last : NoneChanged new (length c.args.text.now - 18 + 16) = search rules in
    let size = before.size in
    let room = c.raise_marked-2.ensures.raises.size in
    sym (none_at_all new (length c.args.text.now - 18 + 16) last (omega arith)) ∙ c.raise_marked-2.ensures.raises.spelled ∙ before.spelled
