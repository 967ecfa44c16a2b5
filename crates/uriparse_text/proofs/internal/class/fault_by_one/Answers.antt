use Rattle.std.proofs.Common.{◌≡◌, ◌+◌, true, false, drop, get_or, ap, sym, ◌∙◌, rules, arith}
use Rattle.std.proofs.lemmas.List.{take_rest}
use Rattle.uriparse_text.specs.Classes.{is_plain}
use Rattle.uriparse_text.specs.Tokens.{is_escape}
use Rattle.uriparse_text.proofs.lemmas.classes.FaultByByteLemmas.{one_more_fine, is_fine_plain, is_fine_escape, not_fine_at, no_fault_offset}
use Rattle.uriparse_text.proofs.internal.class.fault_by_one.Goals as goal
use Rattle.uriparse_text.proofs.internal.class.fault_by_one.Goals.{else-not-has-via-then-not-has+else-not-is_escape, else-not-has-via-else-not-has}

pub returns-then-not-is_escape : goal.returns-then-not-is_escape
returns-then-not-is_escape c =
    let text = c.args.text.now in
    let at = c.bytes.at in
    let plain : is_plain c.args.class (get_or text at 0) ≡ false = search rules in
    let never : is_escape (get_or text at 0) (drop (at + 1) text) ≡ false =
    ap (is_escape (get_or text at 0)) (sym (take_rest text (at + 1))) ∙ (search rules) in
    record { within = c.bytes.invariant.0; fine = c.bytes.invariant.1; faulty = λ more. not_fine_at c.args.class text at more plain never }

pub bytes-preserved : goal.bytes-preserved
bytes-preserved c =
    let text = c.args.text.now in
    let at = c.bytes.at in (
      omega arith,
      one_more_fine c.args.class text at c.bytes.invariant.1 (elim c.else-not-has.branch [
        | else-not-has-via-then-not-has+else-not-is_escape w ↦
            let escape : is_escape (get_or text at 0) (drop (at + 1) text) ≡ true =
            ap (is_escape (get_or text at 0)) (sym (take_rest text (at + 1))) ∙ (search rules) in
            is_fine_escape c.args.class text at c.bytes-test.true escape
        | else-not-has-via-else-not-has w ↦
            let plain : is_plain c.args.class (get_or text at 0) ≡ true = search rules in
            is_fine_plain c.args.class text at c.bytes-test.true plain
      ]),
    )

pub returns : goal.returns
returns c = no_fault_offset c.args.class c.args.text.now c.bytes.at c.bytes.invariant.1 (omega arith)
