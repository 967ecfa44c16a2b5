use Rattle.std.proofs.Common.{sym, ◌∙◌, arith}
use Rattle.uriparse_path.proofs.lemmas.left.RemovedLemmas.{dot_here, none_here, other_here}
use Rattle.uriparse_path.proofs.path.within.removes.Goals as goal

pub returns-then-waiting-eq0 : goal.returns-then-waiting-eq0
returns-then-waiting-eq0 c = sym (none_here c.args.segment.now c.args.waiting c.as_bytes-bytes.ensures.class c.if-waiting-eq0.true)

pub returns-then-is_dot_segment : goal.returns-then-is_dot_segment
returns-then-is_dot_segment c =
    sym (dot_here c.args.segment.now c.args.waiting c.as_bytes-bytes.ensures.class (sym c.is_dot_segment.ensures ∙ c.if-is_dot_segment.true))

pub returns : goal.returns
returns c =
    c.is_unclear.ensures
    ∙ sym (other_here c.args.segment.now c.args.waiting c.as_bytes-bytes.ensures.class (omega (arith, c.if-waiting-eq0.false))
    (sym c.is_dot_segment.ensures ∙ c.if-is_dot_segment.false))
