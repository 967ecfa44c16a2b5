use Rattle.std.proofs.Common.{◌≡◌, ap, arith, rules}
use Rattle.uriparse_text.specs.Offset.{offset_after}
use Rattle.uriparse_authority.specs.Offset as authority
use Rattle.uriparse_reference.specs.declared.uri_reference.error.URIReferenceError.TheVariants as errors
use Rattle.uriparse_reference.specs.Cuts.{cut_authority}
use Rattle.uriparse_reference.specs.Offset.{fault_offset}
use Rattle.uriparse_reference.proofs.lemmas.reading.OffsetLemmas.{following_is, following_within, rest_within, tail_there}
use Rattle.uriparse_reference.proofs.uri_reference.offset.offset_of.Goals as goal

pub overflow_sub-result : goal.overflow_sub-result
overflow_sub-result c = let whole = rest_within c.args.text.now c.split_scheme.result.rest.now c.split_authority.result.1.now c.split_scheme.ensures.rest c.split_authority.ensures.rest in omega (arith, whole)

pub overflow_sub-result-in_default : goal.overflow_sub-result-in_default
overflow_sub-result-in_default c = let whole = following_within c.args.text.now c.split_scheme.result.rest.now c.split_authority.result.1.now c.split_scheme.ensures.rest c.split_authority.ensures.rest in omega (arith, whole)

pub returns-in-Authority-clause-offset : goal.returns-in-Authority-clause-offset
returns-in-Authority-clause-offset c =
    let whole = rest_within c.args.text.now c.split_scheme.result.rest.now c.split_authority.result.1.now c.split_scheme.ensures.rest c.split_authority.ensures.rest in
    let is : c.args.error.now ≡ errors.Authority c.in-Authority.error = search rules in
    let same = ap (λ e. fault_offset e c.args.text.now) is in
    let there = ap (λ u. offset_after 2 (authority.fault_offset c.in-Authority.error) (cut_authority u)) c.split_scheme.ensures.rest in
    let offset = c.authority_offset.ensures.offset in
    omega (arith, whole, same, there, offset)

pub returns-in-Authority-clause-within : goal.returns-in-Authority-clause-within
returns-in-Authority-clause-within c =
    let whole = rest_within c.args.text.now c.split_scheme.result.rest.now c.split_authority.result.1.now c.split_scheme.ensures.rest c.split_authority.ensures.rest in
    let within = c.authority_offset.ensures.within in
    omega (arith, whole, within)

pub returns-in_default : goal.returns-in_default
returns-in_default c =
    let whole = following_within c.args.text.now c.split_scheme.result.rest.now c.split_authority.result.1.now c.split_scheme.ensures.rest c.split_authority.ensures.rest in
    let within = c.tail_offset.ensures.within in
    let following = following_is c.args.text.now c.split_scheme.result.rest.now c.split_authority.result.1.now c.split_scheme.ensures.rest c.split_authority.ensures.rest in
    record {
      offset = tail_there c.args.error.now c.args.text.now c.split_authority.result.1.now c.tail_offset.result following c.tail_offset.ensures.offset
          c.in_default.not-Authority c.in_default.not-Scheme;
      within = omega (arith, whole, within);
    }
