use Rattle.std.proofs.Common.{◌-◌, ◌∙◌, subst, arith}
use Rattle.uriparse_text.specs.Ends.{EndsWith}
use Rattle.uriparse_text.proofs.lemmas.addresses.PutLemmas.{colon_more}
use Rattle.uriparse_text.proofs.address.printed.prepend_after_colons.Goals as goal

pub loop-i-preserved : goal.loop-i-preserved
loop-i-preserved c = record {
  room = c.prepend-total.ensures.room ∙ c.prepend_hex-total.ensures.room ∙ c.loop-i.invariant.room;
  puts = λ t h. subst (EndsWith c.prepend-total.new.out c.prepend-total.result) (colon_more c.args.segments.now (c.loop-i.i - 1) c.loop-i.i t (omega arith) (omega arith))
      (c.prepend-total.ensures.puts _ (c.prepend_hex-total.ensures.puts _ (c.loop-i.invariant.puts t h)));
}
