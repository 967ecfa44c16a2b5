use Rattle.std.proofs.Common.{length, ap, arith}
use Rattle.uriparse_authority.proofs.lemmas.authorities.OffsetLemmas.{user_whole}
use Rattle.uriparse_authority.proofs.authority.offset.username_offset.Goals as goal

pub returns-clause-within : goal.returns-clause-within
returns-clause-within c =
    let whole = user_whole c.args.text.now in
    let front = ap length c.split_at_delimiter.ensures.front in
    let within = c.offset_of_fault.ensures.within in
    omega (arith, whole, front, within)
