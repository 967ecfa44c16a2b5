use Rattle.std.proofs.Common.{append-nil, arith, decimal, subst}
use Rattle.std.proofs.lemmas.Fmt.{length-decimal-le}
use Rattle.uriparse_text.specs.Ends.{EndsWith}
use Rattle.uriparse_authority.proofs.lemmas.authorities.SameTextLemmas.{compared_put, ends_empty, length_put, text_put}
use Rattle.uriparse_authority.proofs.authority.printed.is_decimal.Goals as goal

pub overflow_sub-len : goal.overflow_sub-len
overflow_sub-len c =
    let digits = length-decimal-le 5 c.args.port (omega arith) (omega arith) (omega arith) in
    let len = length_put _ _ _ (subst (EndsWith c.prepend_decimal-len.new.out c.prepend_decimal-len.result) (append-nil (decimal c.args.port))
    (c.prepend_decimal-len.ensures.puts _ (ends_empty _))) (omega arith) in
    omega arith

pub returns : goal.returns
returns c =
    let digits = length-decimal-le 5 c.args.port (omega arith) (omega arith) (omega arith) in
    let ends = subst (EndsWith c.prepend_decimal-len.new.out c.prepend_decimal-len.result) (append-nil (decimal c.args.port))
    (c.prepend_decimal-len.ensures.puts _ (ends_empty _)) in
    compared_put (decimal c.args.port) c.args.text.now _ c.eq.result c.eq.ensures
    (text_put 5 c.prepend_decimal-len.new.out (decimal c.args.port) c.prepend_decimal-len.result ends c.prepend_decimal-len.ensures.room (omega arith) digits)
