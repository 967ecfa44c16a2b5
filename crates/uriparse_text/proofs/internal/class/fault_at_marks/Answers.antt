use Rattle.std.proofs.Common.{◌≡◌, ◌+◌, true, false, drop, get_or, sym, ap, subst, ◌∙◌}
use Rattle.std.proofs.lemmas.List.{take_rest}
use Rattle.uriparse_text.specs.Tokens.{is_escape}
use Rattle.uriparse_text.proofs.lemmas.classes.FaultByByteLemmas.{AreLeft, left_at_first, left_after, fault_left, none_left}
use Rattle.uriparse_text.proofs.internal.class.fault_at_marks.Goals as goal

pub marks-init : goal.marks-init
marks-init c = left_at_first c.args.class c.args.text.now c.args.from c.args.len c.requires.room c.args.marks c.requires.marks

pub returns-then-not-is_escape : goal.returns-then-not-is_escape
returns-then-not-is_escape c =
    let text = c.args.text.now in
    let i = c.args.from + c.lowest-k.result in
    let never : is_escape (get_or text i 0) (drop (i + 1) text) ≡ false = ap (is_escape (get_or text i 0)) (sym (take_rest text (i + 1))) ∙ (cc) in
    fault_left c.args.class text c.args.from c.args.len c.requires.room c.marks.left c.lowest-k.result c.marks.invariant
    c.lowest-k.ensures.set c.lowest-k.ensures.below never

pub marks-preserved : goal.marks-preserved
marks-preserved c =
    let text = c.args.text.now in
    let k = c.lowest-k.result in
    let i = c.args.from + k in
    let escape : is_escape (get_or text i 0) (drop (i + 1) text) ≡ true = ap (is_escape (get_or text i 0)) (sym (take_rest text (i + 1))) ∙ (cc) in
    left_after c.args.class text c.args.from c.args.len c.requires.room c.marks.left k c.without_lowest-left.result c.marks.invariant
    c.lowest-k.ensures.set escape
    (λ j. c.without_lowest-left.ensures.kept k j (c.lowest-k.ensures.set, c.lowest-k.ensures.below)) c.without_lowest-left.ensures.no_more

pub returns : goal.returns
returns c =
    none_left c.args.class c.args.text.now c.args.from c.args.len c.requires.room
    (subst (AreLeft c.args.class c.args.text.now c.args.from c.args.len) c.marks-test.false c.marks.invariant)
