use Rattle.uriparse_text.proofs.lemmas.addresses.PutLemmas.{digit_more, digits_whole}
use Rattle.std.proofs.Common.{decimal, [], refl, sym, arith, append-nil}
use Rattle.uriparse_text.proofs.address.printed.prepend_decimal.Goals as goal

pub digits-init : goal.digits-init
digits-init c = record {
  done = [];
  cut = sym (append-nil (decimal c.args.number));
  small = omega arith;
  room = refl;
  puts = λ t h. h;
}

pub digits-preserved : goal.digits-preserved
digits-preserved c =
    digit_more c.args.number c.digits.left c.args.out.now c.args.len c.digits.out c.digits.total c.prepend-total.new.out c.prepend-total.result c.digits.invariant
    c.digits-test.true c.prepend-total.ensures.room c.prepend-total.ensures.puts

pub returns-clause-puts : goal.returns-clause-puts
returns-clause-puts c =
    digits_whole c.args.number c.digits.left c.args.out.now c.args.len c.digits.out c.digits.total c.prepend.new.out c.prepend.result c.digits.invariant
    c.digits-test.false c.prepend.ensures.puts
