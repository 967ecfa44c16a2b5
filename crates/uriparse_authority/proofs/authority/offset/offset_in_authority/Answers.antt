use Rattle.std.proofs.Common.{◌≡◌, Some, None, length, ap, arith, rules}
use Rattle.uriparse_text.specs.Offset.{offset_after}
use Rattle.uriparse_authority.specs.declared.authority.error.AuthorityError.TheVariants as errors
use Rattle.uriparse_authority.specs.Authority.{cut_port, userinfo_text}
use Rattle.uriparse_authority.specs.Offset.{fault_offset, port_offset}
use Rattle.uriparse_authority.proofs.lemmas.authorities.OffsetLemmas.{host_there, host_within, port_there, rest_within, user_within}
use Rattle.uriparse_authority.proofs.authority.offset.offset_in_authority.Goals as goal

pub overflow_sub-before : goal.overflow_sub-before
overflow_sub-before c =
    let whole = rest_within c.args.text.now c.split_userinfo.result.1.now c.split_port.result.0.now c.split_userinfo.ensures.host_and_port c.split_port.ensures.host in omega (arith, whole)

pub returns-in-Username-Some-default-clause-within : goal.returns-in-Username-Some-default-clause-within
returns-in-Username-Some-default-clause-within c =
    let is : userinfo_text c.args.text.now ≡ Some c.in-Username-Some-default.userinfo.now = search rules in
    let front = user_within c.args.text.now c.in-Username-Some-default.userinfo.now is in
    let within = c.username_offset.ensures.within in
    omega (arith, front, within)

pub returns-in-Password-Some-default-clause-within : goal.returns-in-Password-Some-default-clause-within
returns-in-Password-Some-default-clause-within c =
    let is : userinfo_text c.args.text.now ≡ Some c.in-Password-Some-default.userinfo.now = search rules in
    let front = user_within c.args.text.now c.in-Password-Some-default.userinfo.now is in
    let within = c.password_offset.ensures.within in
    omega (arith, front, within)

pub returns-in-Host-default-default-clause-offset : goal.returns-in-Host-default-default-clause-offset
returns-in-Host-default-default-clause-offset c =
    let text = c.args.text.now in
    let there = host_there text c.split_userinfo.result.1.now c.split_port.result.0.now c.split_userinfo.ensures.host_and_port c.split_port.ensures.host c.in-Host-default-default.error in
    let is : c.args.error.now ≡ errors.Host c.in-Host-default-default.error = search rules in
    let same = ap (λ e. fault_offset e text) is in
    let offset = c.host_offset.ensures.offset in
    omega (arith, there, same, offset)

pub returns-in-Host-default-default-clause-within : goal.returns-in-Host-default-default-clause-within
returns-in-Host-default-default-clause-within c =
    let whole = rest_within c.args.text.now c.split_userinfo.result.1.now c.split_port.result.0.now c.split_userinfo.ensures.host_and_port c.split_port.ensures.host in
    let right = host_within c.args.text.now c.split_userinfo.result.1.now c.split_port.result.0.now c.split_userinfo.ensures.host_and_port c.split_port.ensures.host in
    let within = c.host_offset.ensures.within in
    omega (arith, whole, right, within)

pub overflow_add-result-in-Port-default-Some-3 : goal.overflow_add-result-in-Port-default-Some-3
overflow_add-result-in-Port-default-Some-3 c =
    let whole = rest_within c.args.text.now c.split_userinfo.result.1.now c.split_port.result.0.now c.split_userinfo.ensures.host_and_port c.split_port.ensures.host in
    let right = host_within c.args.text.now c.split_userinfo.result.1.now c.split_port.result.0.now c.split_userinfo.ensures.host_and_port c.split_port.ensures.host in
    let is : cut_port c.split_userinfo.result.1.now ≡ Some c.in-Port-default-Some.port.now = search rules in
    let last = ap (offset_after 1 length) is in
    let within = c.port_offset.ensures.within in
    omega (arith, whole, right, last, within)

pub returns-in-Port-default-Some-clause-within : goal.returns-in-Port-default-Some-clause-within
returns-in-Port-default-Some-clause-within c =
    let whole = rest_within c.args.text.now c.split_userinfo.result.1.now c.split_port.result.0.now c.split_userinfo.ensures.host_and_port c.split_port.ensures.host in
    let right = host_within c.args.text.now c.split_userinfo.result.1.now c.split_port.result.0.now c.split_userinfo.ensures.host_and_port c.split_port.ensures.host in
    let is : cut_port c.split_userinfo.result.1.now ≡ Some c.in-Port-default-Some.port.now = search rules in
    let last = ap (offset_after 1 length) is in
    let within = c.port_offset.ensures.within in
    omega (arith, whole, right, last, within)

pub returns-in-Port-default-Some-clause-offset : goal.returns-in-Port-default-Some-clause-offset
returns-in-Port-default-Some-clause-offset c =
    let text = c.args.text.now in
    let error = c.in-Port-default-Some.error in
    let there = port_there text c.split_userinfo.result.1.now c.split_port.result.0.now c.split_userinfo.ensures.host_and_port c.split_port.ensures.host error in
    let port : cut_port c.split_userinfo.result.1.now ≡ Some c.in-Port-default-Some.port.now = search rules in
    let last = ap (offset_after 1 (port_offset error)) port in
    let is : c.args.error.now ≡ errors.Port error = search rules in
    let same = ap (λ e. fault_offset e text) is in
    let offset = c.port_offset.ensures.offset in
    omega (arith, there, last, same, offset)

pub returns-in-Port-default-None-clause-offset : goal.returns-in-Port-default-None-clause-offset
returns-in-Port-default-None-clause-offset c =
    let text = c.args.text.now in
    let error = c.in-Port-default-None.field-0-0 in
    let there = port_there text c.split_userinfo.result.1.now c.split_port.result.0.now c.split_userinfo.ensures.host_and_port c.split_port.ensures.host error in
    let port : cut_port c.split_userinfo.result.1.now ≡ None = search rules in
    let last = ap (offset_after 1 (port_offset error)) port in
    let is : c.args.error.now ≡ errors.Port error = search rules in
    let same = ap (λ e. fault_offset e text) is in
    omega (arith, there, last, same)

pub returns-in-Port-default-None-clause-within : goal.returns-in-Port-default-None-clause-within
returns-in-Port-default-None-clause-within c =
    let whole = rest_within c.args.text.now c.split_userinfo.result.1.now c.split_port.result.0.now c.split_userinfo.ensures.host_and_port c.split_port.ensures.host in
    let right = host_within c.args.text.now c.split_userinfo.result.1.now c.split_port.result.0.now c.split_userinfo.ensures.host_and_port c.split_port.ensures.host in
    omega (arith, whole, right)
