use Rattle.std.proofs.Common.{◌≡◌, Some, length, ap, arith, rules}
use Rattle.uriparse_text.specs.Bytes.{colon}
use Rattle.uriparse_text.specs.Cuts.{after}
use Rattle.uriparse_text.specs.Offset.{offset_after}
use Rattle.uriparse_authority.proofs.lemmas.authorities.OffsetLemmas.{user_whole}
use Rattle.uriparse_authority.proofs.authority.offset.password_offset.Goals as goal

pub returns-in-Some-clause-within : goal.returns-in-Some-clause-within
returns-in-Some-clause-within c =
    let is : after colon c.args.text.now ≡ Some c.in-Some.password.now = search rules in
    let whole = user_whole c.args.text.now in
    let front = ap length c.split_at_delimiter.ensures.front in
    let last = ap (offset_after 1 length) is in
    let within = c.offset_of_fault.ensures.within in
    omega (arith, whole, front, last, within)

pub returns-in-None-clause-within : goal.returns-in-None-clause-within
returns-in-None-clause-within c =
    let whole = user_whole c.args.text.now in
    let front = ap length c.split_at_delimiter.ensures.front in
    omega (arith, whole, front)
