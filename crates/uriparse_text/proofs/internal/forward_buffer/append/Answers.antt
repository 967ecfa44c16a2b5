use Rattle.std.proofs.Common.{◌-◌, arith}
use Rattle.std.proofs.lemmas.Slice.{drop-put_mid}
use Rattle.uriparse_text.proofs.internal.forward_buffer.append.Goals as goal

pub returns-then-total-out-clause-rest : goal.returns-then-total-out-clause-rest
returns-then-total-out-clause-rest c =
    let total = c.saturating_add-total.result in
    record {
      longer = omega arith;
      same = drop-put_mid c.args.len (total - c.args.len) c.args.out.now c.copy_run.new.out total (omega arith) (omega arith) (omega arith);
    }
