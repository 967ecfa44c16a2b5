use Rattle.std.proofs.Common.{◌-◌, ◌∙◌, subst, arith}
use Rattle.uriparse_text.specs.Ends.{EndsWith}
use Rattle.uriparse.specs.SortKey.{digits}
use Rattle.uriparse.proofs.lemmas.SortLemmas.{one_more}
use Rattle.uriparse.proofs.sort_key.prepend_each.Goals as goal

pub loop-i-preserved : goal.loop-i-preserved
loop-i-preserved c = record {
  room = c.prepend_segment-total.ensures.room ∙ c.loop-i.invariant.room;
  puts = λ t h. subst (EndsWith c.prepend_segment-total.new.out c.prepend_segment-total.result)
      (one_more (digits 16 4) c.args.segments.now (c.loop-i.i - 1) c.loop-i.i t (omega arith) (omega arith))
      (c.prepend_segment-total.ensures.puts _ (c.loop-i.invariant.puts t h));
}
