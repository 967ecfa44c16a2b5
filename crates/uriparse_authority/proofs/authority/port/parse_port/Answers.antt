use Rattle.std.proofs.Common.{◌≡◌, ◌+◌, ◌*◌, [], drop, drop_of_length-le, Some, None, Ok, sym, ap, ◌∙◌, arith, rules}
use Rattle.std.specs.Str.Parse.{digits_value_after}
use Rattle.uriparse_text.specs.Readings.{unless_fault}
use Rattle.uriparse_authority.specs.Port.{fault, value_of}
use Rattle.uriparse_authority.specs.declared.authority.error.PortError.TheVariants.{InvalidCharacter, Overflow}
use Rattle.uriparse_authority.proofs.lemmas.authorities.PortLemmas.{reads_digit, meets_other, fault_after, fault_after-nil, fault_after-large, value_of-some}
use Rattle.uriparse_authority.proofs.authority.port.parse_port.Goals as goal

pub returns-then-not-is_ascii_digit : goal.returns-then-not-is_ascii_digit
returns-then-not-is_ascii_digit c =
    let met =
    meets_other c.loop-b.number c.loop-b.b-index c.args.bytes.now c.loop-b.invariant.in_range c.loop-b-test.true
    (sym c.is_ascii_digit.ensures.value ∙ c.if-not-is_ascii_digit.true) in
    let found : fault c.args.bytes.now ≡ Some InvalidCharacter = sym c.loop-b.invariant.fault ∙ met in
    sym (ap (λ o. unless_fault o (value_of c.args.bytes.now)) found)

pub returns-then-number-from : goal.returns-then-number-from
returns-then-number-from c =
    let read =
    reads_digit c.loop-b.number (c.loop-b.number * 10 + c.from.result) c.loop-b.b-index c.args.bytes.now c.loop-b-test.true
    (sym c.is_ascii_digit.ensures.value ∙ c.if-not-is_ascii_digit.false) (omega arith) in
    let large = fault_after-large (c.loop-b.number * 10 + c.from.result) (drop (c.loop-b.b-index + 1) c.args.bytes.now) (omega arith) in
    let found : fault c.args.bytes.now ≡ Some Overflow = sym c.loop-b.invariant.fault ∙ read.fault ∙ large in
    sym (ap (λ o. unless_fault o (value_of c.args.bytes.now)) found)

pub loop-b-preserved : goal.loop-b-preserved
loop-b-preserved c =
    let read =
    reads_digit c.loop-b.number (c.loop-b.number * 10 + c.from.result) c.loop-b.b-index c.args.bytes.now c.loop-b-test.true
    (sym c.is_ascii_digit.ensures.value ∙ c.if-not-is_ascii_digit.false) (omega arith) in
    record {
      in_range = omega arith;
      fault = sym read.fault ∙ c.loop-b.invariant.fault;
      value = sym read.value ∙ c.loop-b.invariant.value;
    }

pub returns-else-is_empty : goal.returns-else-is_empty
returns-else-is_empty c =
    let ended : drop c.loop-b.b-index c.args.bytes.now ≡ [] = drop_of_length-le c.args.bytes.now (omega arith) in
    let fine : fault c.args.bytes.now ≡ None =
    sym c.loop-b.invariant.fault ∙ ap (fault_after c.loop-b.number) ended ∙ fault_after-nil c.loop-b.number c.loop-b.invariant.in_range in
    let whole = sym c.loop-b.invariant.value ∙ ap (digits_value_after 10 c.loop-b.number) ended in
    sym (ap (λ o. unless_fault o (value_of c.args.bytes.now)) fine ∙ ap Ok (value_of-some c.args.bytes.now (search rules) ∙ ap Some whole))
