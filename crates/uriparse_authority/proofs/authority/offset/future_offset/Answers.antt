use Rattle.std.proofs.Common.{◌≡◌, Some, rules}
use Rattle.uriparse_authority.specs.Future.{is_future_byte}
use Rattle.uriparse_authority.specs.Host.{in_brackets}
use Rattle.uriparse_authority.proofs.lemmas.authorities.OffsetLemmas.{bracket_offset}
use Rattle.uriparse_authority.proofs.authority.offset.future_offset.Goals as goal

pub returns-in-Some-clause-within : goal.returns-in-Some-clause-within
returns-in-Some-clause-within c =
    let is : in_brackets c.args.text.now ≡ Some c.in-Some.inner.now = search rules in
    (bracket_offset is_future_byte c.args.text.now c.in-Some.inner.now c.other_in_future.result is c.other_in_future.ensures.offset).1
