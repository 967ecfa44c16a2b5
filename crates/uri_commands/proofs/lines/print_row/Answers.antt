use Rattle.std.proofs.Common.{◌∙◌, ap, refl}
use Rattle.uriparse_text.proofs.lemmas.readings.CutLemmas.{before-lacks}
use Rattle.uri_commands.specs.Columns.{done, row}
use Rattle.uri_commands.specs.Lines.{newline}
use Rattle.uri_commands.specs.Outputs.{Gives, first_line}
use Rattle.uriparse_text.specs.Cuts.{before}
use Rattle.uri_commands.proofs.ColumnLemmas.{row_lacks}
use Rattle.uri_commands.proofs.OutputsLemmas.{after_clear}
use Rattle.uri_commands.proofs.lines.print_row.Goals as goal

pub returns-clause-row : goal.returns-clause-row
returns-clause-row g c =
    let cut = c.in-Some.cut in
    let end = c.args.work.now.end in
    let printed = c.deref.result.now in
    let gave = c.in_ok-outcome.ensures.ok in (
      row c.args.columns.appends cut.front.now cut.text.now cut.back.now (first_line end printed),
      done cut.front.now cut.text.now cut.back.now (first_line end printed) c.in-Some.ensures
          (record { answer = gave.0; is = gave.1; outcome_is = gave.2; field_is = ap (first_line end) (c.deref.ensures.value ∙ gave.3) })
          (before-lacks end (before newline printed)) refl,
      after_clear _ _ _ c.clear.ensures.items c.in_ok-write_row.ensures,
    )

pub returns-clause-one : goal.returns-clause-one
returns-clause-one g c other lacking =
    let cut = c.in-Some.cut in
    let end = c.args.work.now.end in
    let printed = c.deref.result.now in
    let gave = c.in_ok-outcome.ensures.ok in (
      row c.args.columns.appends cut.front.now cut.text.now cut.back.now (first_line end printed),
      row_lacks {Gives = Gives c.args.work.now} end c.args.columns.first c.args.work.now.width c.args.columns.appends c.args.line.now
          (row c.args.columns.appends cut.front.now cut.text.now cut.back.now (first_line end printed)) _ other
          (done cut.front.now cut.text.now cut.back.now (first_line end printed) c.in-Some.ensures
          (record { answer = gave.0; is = gave.1; outcome_is = gave.2; field_is = ap (first_line end) (c.deref.ensures.value ∙ gave.3) })
          (before-lacks end (before newline printed)) refl) lacking,
      after_clear _ _ _ c.clear.ensures.items c.in_ok-write_row.ensures,
    )
