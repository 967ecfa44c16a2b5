use Rattle.std.proofs.Common.{◌≡◌, Some, length, ap, arith, rules}
use Rattle.uriparse_text.specs.Offset.{offset_after}
use Rattle.uriparse_reference.specs.Cuts.{cut_authority}
use Rattle.uriparse_reference.proofs.lemmas.reading.OffsetLemmas.{authority_length}
use Rattle.uriparse_reference.proofs.uri_reference.offset.authority_offset.Goals as goal

pub returns-in-Some-clause-within : goal.returns-in-Some-clause-within
returns-in-Some-clause-within c =
    let is : cut_authority c.args.text.now ≡ Some c.in-Some.authority.now = search rules in
    let whole = authority_length c.args.text.now in
    let front = ap (offset_after 2 length) is in
    let within = c.offset_in_authority.ensures.within in
    omega (arith, whole, front, within)
