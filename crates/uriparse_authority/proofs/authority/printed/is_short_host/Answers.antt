use Rattle.std.proofs.Common.{append-nil, arith, subst}
use Rattle.uriparse_text.specs.Ends.{EndsWith}
use Rattle.uriparse_authority.specs.Host.{text}
use Rattle.uriparse_authority.proofs.lemmas.authorities.SameTextLemmas.{compared_put, ends_empty, length_put, text_put}
use Rattle.uriparse_authority.proofs.authority.printed.is_short_host.Goals as goal

pub overflow_sub-len : goal.overflow_sub-len
overflow_sub-len c =
    let short = c.requires in
    let len = length_put _ _ _ (subst (EndsWith c.prepend_host-len.new.out c.prepend_host-len.result) (append-nil (text c.args.host.now))
    (c.prepend_host-len.ensures.puts _ (ends_empty _))) (omega arith) in
    omega arith

pub returns : goal.returns
returns c =
    let short = c.requires in
    let ends = subst (EndsWith c.prepend_host-len.new.out c.prepend_host-len.result) (append-nil (text c.args.host.now))
    (c.prepend_host-len.ensures.puts _ (ends_empty _)) in
    compared_put (text c.args.host.now) c.args.text.now _ c.eq.result c.eq.ensures
    (text_put 41 c.prepend_host-len.new.out (text c.args.host.now) c.prepend_host-len.result ends c.prepend_host-len.ensures.room (omega arith) short)
