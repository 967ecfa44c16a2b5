use Rattle.std.proofs.Common.{◌≡◌, ◌∙◌, sym, subst, add-one, arith}
use Rattle.uriparse_text.specs.Ends.{EndsWith}
use Rattle.uriparse_path.specs.Remaining.{with_parent_steps}
use Rattle.uriparse_path.proofs.path.text.write.prepend_parent_steps.Goals as goal

pub loop-preserved : goal.loop-preserved
loop-preserved c = record {
  room = c.prepend-total.ensures.room ∙ c.loop.invariant.room;
  puts = λ t h. subst (λ n. EndsWith c.prepend-total.new.out c.prepend-total.result (with_parent_steps n t)) (sym (add-one c.loop.counter))
      (c.prepend-total.ensures.puts (with_parent_steps c.loop.counter t) (c.loop.invariant.puts t h));
}

pub returns-clause-puts : goal.returns-clause-puts
returns-clause-puts c = λ t h.
    let all : c.loop.counter ≡ c.args.count = omega arith in
    subst (λ n. EndsWith c.loop.out c.loop.total (with_parent_steps n t)) all (c.loop.invariant.puts t h)
