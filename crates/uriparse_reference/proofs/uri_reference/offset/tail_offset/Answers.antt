use Rattle.std.proofs.Common.{◌≡◌, length, sym, ap, ◌∙◌, arith, rules}
use Rattle.uriparse_text.specs.declared.internal.class.Class.TheVariants.{Query}
use Rattle.uriparse_text.specs.Offset as text
use Rattle.uriparse_text.specs.Offset.{offset_after}
use Rattle.uriparse_path.specs.Offset as path
use Rattle.uriparse_reference.specs.declared.uri_reference.error.URIReferenceError.TheVariants as errors
use Rattle.uriparse_reference.specs.Offset.{tail_offset}
use Rattle.uriparse_reference.proofs.lemmas.reading.OffsetLemmas.{front_within, path_there, path_within, query_there}
use Rattle.uriparse_reference.proofs.uri_reference.offset.tail_offset.Goals as goal

pub returns-in-Path-clause-offset : goal.returns-in-Path-clause-offset
returns-in-Path-clause-offset c =
    let there = path_there c.args.text.now c.split_at_delimiter.result.0.now c.split_at_delimiter.result.1.now c.split_at_delimiter-2.result.0.now c.split_at_delimiter-2.result.1.now
    c.split_at_delimiter.ensures.front c.split_at_delimiter.ensures.rest c.split_at_delimiter-2.ensures.front c.split_at_delimiter-2.ensures.rest in
    let is : c.args.error.now ≡ errors.Path c.in-Path.field-0 = search rules in
    c.offset_of_path_fault.ensures.offset ∙ ap path.fault_offset there ∙ sym (ap (λ e. tail_offset e c.args.text.now) is)

pub returns-in-Path-clause-within : goal.returns-in-Path-clause-within
returns-in-Path-clause-within c =
    let front = front_within c.args.text.now c.split_at_delimiter.result.0.now c.split_at_delimiter.result.1.now c.split_at_delimiter-2.result.0.now c.split_at_delimiter-2.result.1.now
    c.split_at_delimiter.ensures.front c.split_at_delimiter.ensures.rest c.split_at_delimiter-2.ensures.front c.split_at_delimiter-2.ensures.rest in
    let path = path_within c.args.text.now c.split_at_delimiter.result.0.now c.split_at_delimiter.result.1.now c.split_at_delimiter-2.result.0.now c.split_at_delimiter-2.result.1.now
    c.split_at_delimiter.ensures.front c.split_at_delimiter.ensures.rest c.split_at_delimiter-2.ensures.front c.split_at_delimiter-2.ensures.rest in
    let within = c.offset_of_path_fault.ensures.within in
    omega (arith, front, path, within)

pub returns-in-Query-clause-offset : goal.returns-in-Query-clause-offset
returns-in-Query-clause-offset c =
    let there = ap length (path_there c.args.text.now c.split_at_delimiter.result.0.now c.split_at_delimiter.result.1.now c.split_at_delimiter-2.result.0.now c.split_at_delimiter-2.result.1.now
    c.split_at_delimiter.ensures.front c.split_at_delimiter.ensures.rest c.split_at_delimiter-2.ensures.front c.split_at_delimiter-2.ensures.rest) in
    let query = ap (offset_after 1 (text.fault_offset Query)) (query_there c.args.text.now c.split_at_delimiter.result.0.now c.split_at_delimiter.result.1.now c.split_at_delimiter-2.result.0.now c.split_at_delimiter-2.result.1.now
    c.split_at_delimiter.ensures.front c.split_at_delimiter.ensures.rest c.split_at_delimiter-2.ensures.front c.split_at_delimiter-2.ensures.rest) in
    let is : c.args.error.now ≡ errors.Query c.in-Query.field-0 = search rules in
    let same = ap (λ e. tail_offset e c.args.text.now) is in
    let offset = c.component_offset.ensures.offset in
    omega (arith, there, query, same, offset)

pub returns-in-Query-clause-within : goal.returns-in-Query-clause-within
returns-in-Query-clause-within c =
    let front = front_within c.args.text.now c.split_at_delimiter.result.0.now c.split_at_delimiter.result.1.now c.split_at_delimiter-2.result.0.now c.split_at_delimiter-2.result.1.now
    c.split_at_delimiter.ensures.front c.split_at_delimiter.ensures.rest c.split_at_delimiter-2.ensures.front c.split_at_delimiter-2.ensures.rest in
    let path = path_within c.args.text.now c.split_at_delimiter.result.0.now c.split_at_delimiter.result.1.now c.split_at_delimiter-2.result.0.now c.split_at_delimiter-2.result.1.now
    c.split_at_delimiter.ensures.front c.split_at_delimiter.ensures.rest c.split_at_delimiter-2.ensures.front c.split_at_delimiter-2.ensures.rest in
    let within = c.component_offset.ensures.within in
    omega (arith, front, path, within)

pub returns-in-Fragment-clause-within : goal.returns-in-Fragment-clause-within
returns-in-Fragment-clause-within c =
    let front = front_within c.args.text.now c.split_at_delimiter.result.0.now c.split_at_delimiter.result.1.now c.split_at_delimiter-2.result.0.now c.split_at_delimiter-2.result.1.now
    c.split_at_delimiter.ensures.front c.split_at_delimiter.ensures.rest c.split_at_delimiter-2.ensures.front c.split_at_delimiter-2.ensures.rest in
    let within = c.component_offset-in-Fragment.ensures.within in
    omega (arith, front, within)
