use Rattle.std.proofs.Common.{refl}
use Rattle.uri_commands.proofs.OutputsLemmas.{never_started}
use Rattle.uri_commands.proofs.lines.write_lines.Goals as goal

pub returns-in_err-input-clause-runs : goal.returns-in_err-input-clause-runs
returns-in_err-input-clause-runs g c =
    never_started c.args.task c.args.options.columns c.args.options.end
    (record {
      alloc = c.args.alloc;
      explains = c.args.options.explains;
      task = c.args.task;
      columns = c.args.options.columns;
      width = c.width.result;
      fields = c.printed_fields.result;
      end = c.args.options.end;
    }) _ _ _ _ c.from_residual.ensures.1 c.in_err-input.ensures.err
    (record { task_is = refl; columns_are = refl; end_is = refl; width_is = c.width.ensures.is; fields_are = c.printed_fields.ensures })
