use Rattle.std.proofs.Common.{◌++◌, take, sym, ap, ◌∙◌}
use Rattle.std.proofs.lemmas.List.{take-append-drop}
use Rattle.uriparse_text.specs.Canonical.{may_change}
use Rattle.uriparse_text.proofs.lemmas.readings.CutLemmas.{take_offset, drop_offset}
use Rattle.uriparse_text.proofs.lemmas.canonical.RunLemmas.{canonical_in-run}
use Rattle.uriparse_text.proofs.internal.canonical.split_run.Goals as goal

pub returns-clause-whole : goal.returns-clause-whole
returns-clause-whole c = sym (ap (λ u. u ++ c.split_at.result.1.now) c.split_at.ensures.front
    ∙ ap (λ u. take c.first-2.result c.args.text.now ++ u) c.split_at.ensures.back ∙ take-append-drop c.first-2.result c.args.text.now)

pub returns-clause-spelled : goal.returns-clause-spelled
returns-clause-spelled c =
    rw (
      c.split_at.ensures.front,
      c.split_at.ensures.back,
      c.first-2.ensures.offset,
      take_offset (may_change c.args.case) c.args.text.now,
      drop_offset (may_change c.args.case) c.args.text.now,
    ) (canonical_in-run c.args.case c.args.text.now)
