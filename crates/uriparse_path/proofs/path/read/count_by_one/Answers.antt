use Rattle.std.proofs.Common.{◌≡◌, ℕ, ◌+◌, true, false, [], arith, drop, get_or, sym, ap, ◌∙◌}
use Rattle.std.specs.Prelude.{Err, ◌&&◌}
use Rattle.std.proofs.lemmas.Bool.{eq-eqb, ne_eqb}
use Rattle.std.proofs.lemmas.List.{take_rest}
use Rattle.std.proofs.Math.ListN.{drop_of_length-le}
use Rattle.uriparse_text.specs.Tokens.{is_escape}
use Rattle.uriparse_path.specs.Faults.{ends_path, path_front}
use Rattle.uriparse_path.proofs.lemmas.reading.CountingWalkLemmas.{counted_slash, counted_full, counted_fault, counted_sign, front_escape, slash_goes_on, sign_goes_on}
use Rattle.uriparse_path.proofs.lemmas.reading.CountingWalkLemmas.{reached_start, reached_here, reached_on, reached_stop, reached_nothing, run_begins, run_within, run_to, run_on, run_ends}
use Rattle.uriparse_path.proofs.path.read.count_by_one.Goals as goal
use Rattle.uriparse_path.proofs.path.read.count_by_one.Goals.{then-b-eq47+else-count-limit, else-b-eq47+else-is_end+else-not-is_escape}

pub runs-init : goal.runs-init
runs-init c = (omega arith, reached_start c.args.limit c.args.ends c.args.text.now c.requires)

pub marks-init : goal.marks-init
marks-init c =
    run_begins c.args.limit c.args.ends c.args.text.now c.runs.at c.next_mask-marks.result.1 c.runs.count c.next_mask-marks.result.0
    c.next_mask-marks.ensures.room c.runs.invariant.1 c.next_mask-marks.ensures.marks

pub returns-then-count-limit-clause-count : goal.returns-then-count-limit-clause-count
returns-then-count-limit-clause-count c =
    let text = c.args.text.now in
    let limit = c.args.limit in
    let ends = c.args.ends in
    let n = c.next_mask-marks.result.1 in
    let k = c.lowest-k.result in
    let i = c.runs.at + k in
    let low = c.lowest-k.ensures in
    let within = run_within limit ends text c.runs.at n c.marks.count c.marks.left k c.marks.invariant low.set in
    let reached = run_to limit ends text c.runs.at n c.marks.count c.marks.left k c.marks.invariant low.set low.below in
    let slash = eq-eqb _ _ c.if-b-eq47.true in
    counted_full limit (path_front ends text) c.marks.count (get_or text i 0) (path_front ends (drop (i + 1) text))
    (reached_here limit ends text c.marks.count i reached within (slash_goes_on ends (get_or text i 0) slash)) slash c.if-count-limit.true

pub returns-then-is_end-clause-count : goal.returns-then-is_end-clause-count
returns-then-is_end-clause-count c =
    let text = c.args.text.now in
    let limit = c.args.limit in
    let ends = c.args.ends in
    let n = c.next_mask-marks.result.1 in
    let k = c.lowest-k.result in
    let low = c.lowest-k.ensures in
    let within = run_within limit ends text c.runs.at n c.marks.count c.marks.left k c.marks.invariant low.set in
    let reached = run_to limit ends text c.runs.at n c.marks.count c.marks.left k c.marks.invariant low.set low.below in
    let stop : (ends && ends_path (get_or text (c.runs.at + k) 0)) ≡ true = cc in
    reached_stop limit ends text c.marks.count (c.runs.at + k) reached within stop

pub returns-then-not-is_escape-clause-count : goal.returns-then-not-is_escape-clause-count
returns-then-not-is_escape-clause-count c =
    let text = c.args.text.now in
    let limit = c.args.limit in
    let ends = c.args.ends in
    let n = c.next_mask-marks.result.1 in
    let k = c.lowest-k.result in
    let i = c.runs.at + k in
    let low = c.lowest-k.ensures in
    let within = run_within limit ends text c.runs.at n c.marks.count c.marks.left k c.marks.invariant low.set in
    let reached = run_to limit ends text c.runs.at n c.marks.count c.marks.left k c.marks.invariant low.set low.below in
    let goes : (ends && ends_path (get_or text i 0)) ≡ false = cc in
    let never : is_escape (get_or text i 0) (drop (i + 1) text) ≡ false = ap (is_escape (get_or text i 0)) (sym (take_rest text (i + 1))) ∙ (cc) in
    ap Err c.error_of.ensures
    ∙ counted_fault limit (path_front ends text) c.marks.count (get_or text i 0) (path_front ends (drop (i + 1) text))
    (reached_here limit ends text c.marks.count i reached within goes) ((c.marks.invariant.waiting k low.set).2)
    (ne_eqb _ _ c.if-b-eq47.false) (front_escape ends (get_or text i 0) (drop (i + 1) text) ∙ never)

pub marks-preserved : goal.marks-preserved
marks-preserved c =
    let text = c.args.text.now in
    let limit = c.args.limit in
    let ends = c.args.ends in
    let n = c.next_mask-marks.result.1 in
    let k = c.lowest-k.result in
    let i = c.runs.at + k in
    let low = c.lowest-k.ensures in
    let next = c.without_lowest-left.ensures in
    let within = run_within limit ends text c.runs.at n c.marks.count c.marks.left k c.marks.invariant low.set in
    let reached = run_to limit ends text c.runs.at n c.marks.count c.marks.left k c.marks.invariant low.set low.below in
    let following = path_front ends (drop (i + 1) text) in
    let on = λ (more : ℕ).
    run_on limit ends text c.runs.at n c.marks.count more c.marks.left k c.without_lowest-left.result c.marks.invariant low.set low.below
    (λ j. next.kept k j (low.set, low.below)) next.no_more (next.cleared k (low.set, low.below)) in
    elim c.if-b-eq47.branch [
      | then-b-eq47+else-count-limit w ↦
          let slash = eq-eqb _ _ w.if-b-eq47.true in
          let goes = slash_goes_on ends (get_or text i 0) slash in
          let here = reached_here limit ends text c.marks.count i reached within goes in
          rw w.count-is
          (on _ (reached_on limit ends text c.marks.count (c.marks.count + 1) i reached within goes
          (counted_slash limit (path_front ends text) c.marks.count (get_or text i 0) following here slash w.if-count-limit.false)))
      | else-b-eq47+else-is_end+else-not-is_escape w ↦
          let escape : is_escape (get_or text i 0) (drop (i + 1) text) ≡ true = ap (is_escape (get_or text i 0)) (sym (take_rest text (i + 1))) ∙ (cc) in
          let goes = sign_goes_on ends (get_or text i 0) (drop (i + 1) text) escape in
          let here = reached_here limit ends text c.marks.count i reached within goes in
          rw w.count-is
          (on _ (reached_on limit ends text c.marks.count c.marks.count i reached within goes
          (counted_sign limit (path_front ends text) c.marks.count (get_or text i 0) following here
          (front_escape ends (get_or text i 0) (drop (i + 1) text) ∙ escape))))
    ]

pub runs-preserved : goal.runs-preserved
runs-preserved c = (
  c.next_mask-marks.ensures.room,
  run_ends c.args.limit c.args.ends c.args.text.now c.runs.at c.next_mask-marks.result.1 c.marks.count c.marks.left c.marks.invariant c.marks-test.false,
)

pub returns-clause-count : goal.returns-clause-count
returns-clause-count c =
    let ends : drop c.runs.at c.args.text.now ≡ [] = drop_of_length-le c.args.text.now (omega arith) in
    reached_nothing c.args.limit c.args.ends c.args.text.now c.runs.count c.runs.at c.runs.invariant.1 (ap (path_front c.args.ends) ends)
