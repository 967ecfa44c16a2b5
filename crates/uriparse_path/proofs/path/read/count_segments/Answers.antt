use Rattle.std.proofs.Common.{◌≡◌, ◌+◌, ◌%◌, ◌^◌, true, false, [], arith, drop, get_or, sym, ap, subst, ◌∙◌, count_ones}
use Rattle.std.specs.Prelude.{Err, ◌&&◌}
use Rattle.std.proofs.lemmas.List.{take_rest}
use Rattle.std.proofs.Math.ListN.{drop_of_length-le}
use Rattle.uriparse_text.specs.Tokens.{is_escape}
use Rattle.uriparse_text.proofs.lemmas.scans.BitLemmas.{ones_below}
use Rattle.uriparse_path.specs.Faults.{ends_path, path_front}
use Rattle.uriparse_path.proofs.lemmas.reading.CountingWalkLemmas.{IsReached, counted_fault, counted_sign, front_escape, sign_goes_on}
use Rattle.uriparse_path.proofs.lemmas.reading.CountingWalkLemmas.{reached_start, reached_here, reached_on, reached_stop, reached_nothing}
use Rattle.uriparse_path.proofs.lemmas.reading.CountingWalkLemmas.{sweep_begins, sweep_within, sweep_to, sweep_on, sweep_ends}
use Rattle.std.specs.Int.{bit_at}
use Rattle.std.proofs.lemmas.Nat.Bits.{bit_at-zero}
use Rattle.uriparse_path.proofs.lemmas.reading.NoEscapeLemmas.{free_begins, free_to, free_lacks}
use Rattle.uriparse_path.proofs.path.read.count_segments.Goals as goal

pub runs-init : goal.runs-init
runs-init c = (omega arith, reached_start c.args.limit c.args.ends c.args.text.now c.requires, λ _ j h. absurd (omega arith))

pub marks-init : goal.marks-init
marks-init c =
    let step = c.next_mask_by_two-marks.ensures in
    let short = c.runs.invariant.1.counted.short in (
      sweep_begins c.args.limit c.args.ends c.args.text.now c.runs.at c.next_mask_by_two-marks.result.2 c.next_mask_by_two-marks.result.1 c.runs.count
          c.next_mask_by_two-marks.result.0 c.without-left.result
          (record { room = step.room; marks = step.others; fits = omega (arith, c.if-more-limit.false, short) })
          (omega (arith, step.few)) c.runs.invariant.1 step.marks c.without-left.ensures.no_more c.without-left.ensures.gone,
      λ h. free_begins c.args.text.now c.runs.at c.next_mask_by_two-marks.result.2 c.next_mask_by_two-marks.result.0 c.next_mask_by_two-marks.result.1
          c.without-left.result step.marks step.others (omega (arith, step.few)) c.without-left.ensures.gone (c.runs.invariant.2 h),
    )

pub bounds-text-at : goal.bounds-text-at
bounds-text-at c =
    sweep_within c.args.limit c.args.ends c.args.text.now c.runs.at c.next_mask_by_two-marks.result.2 c.next_mask_by_two-marks.result.1 c.runs.count
    c.marks.left c.lowest-k.result c.marks.invariant.0 c.lowest-k.ensures.set

pub overflow_add-result : goal.overflow_add-result
overflow_add-result c =
    let below = ones_below c.next_mask_by_two-marks.result.1 c.lowest-k.result in
    omega (arith, below, c.count_below.ensures, c.marks.invariant.0.are.fits, c.ranges.limit.fits)

pub returns-then-is_end-clause-count : goal.returns-then-is_end-clause-count
returns-then-is_end-clause-count c =
    let text = c.args.text.now in
    let limit = c.args.limit in
    let ends = c.args.ends in
    let n = c.next_mask_by_two-marks.result.2 in
    let slashes = c.next_mask_by_two-marks.result.1 in
    let count = c.runs.count in
    let k = c.lowest-k.result in
    let low = c.lowest-k.ensures in
    let within = sweep_within limit ends text c.runs.at n slashes count c.marks.left k c.marks.invariant.0 low.set in
    let swept = sweep_to limit ends text c.runs.at n slashes count c.marks.left k c.marks.invariant.0 low.set low.below in
    let reached = subst (λ m. IsReached limit ends text (count + m) (c.runs.at + k)) (sym c.count_below.ensures) swept in
    let stop : (ends && ends_path (get_or text (c.runs.at + k) 0)) ≡ true = cc in
    reached_stop limit ends text (count + c.count_below.result) (c.runs.at + k) reached within stop

pub returns-then-is_end-clause-escaped : goal.returns-then-is_end-clause-escaped
returns-then-is_end-clause-escaped c h =
    let low = c.lowest-k.ensures in
    let short = (c.marks.invariant.0.waiting c.lowest-k.result low.set).1 in
    free_lacks c.args.text.now (c.runs.at + c.lowest-k.result)
    (free_to c.args.text.now c.runs.at c.next_mask_by_two-marks.result.2 c.marks.left c.lowest-k.result (c.marks.invariant.1 h) (omega (arith, short)) low.below)

pub returns-clause-escaped : goal.returns-clause-escaped
returns-clause-escaped c h = free_lacks c.args.text.now c.runs.at (c.runs.invariant.2 h)

pub returns-then-not-is_escape-clause-count : goal.returns-then-not-is_escape-clause-count
returns-then-not-is_escape-clause-count c =
    let text = c.args.text.now in
    let limit = c.args.limit in
    let ends = c.args.ends in
    let n = c.next_mask_by_two-marks.result.2 in
    let slashes = c.next_mask_by_two-marks.result.1 in
    let count = c.runs.count in
    let k = c.lowest-k.result in
    let i = c.runs.at + k in
    let low = c.lowest-k.ensures in
    let so_far = count + count_ones (slashes % 2 ^ k) in
    let within = sweep_within limit ends text c.runs.at n slashes count c.marks.left k c.marks.invariant.0 low.set in
    let reached = sweep_to limit ends text c.runs.at n slashes count c.marks.left k c.marks.invariant.0 low.set low.below in
    let goes : (ends && ends_path (get_or text i 0)) ≡ false = cc in
    let never : is_escape (get_or text i 0) (drop (i + 1) text) ≡ false = ap (is_escape (get_or text i 0)) (sym (take_rest text (i + 1))) ∙ (cc) in
    let waits = c.marks.invariant.0.waiting k low.set in
    ap Err c.error_of.ensures
    ∙ counted_fault limit (path_front ends text) so_far (get_or text i 0) (path_front ends (drop (i + 1) text))
    (reached_here limit ends text so_far i reached within goes) waits.2 waits.3 (front_escape ends (get_or text i 0) (drop (i + 1) text) ∙ never)

pub marks-preserved : goal.marks-preserved
marks-preserved c =
    let text = c.args.text.now in
    let limit = c.args.limit in
    let ends = c.args.ends in
    let n = c.next_mask_by_two-marks.result.2 in
    let slashes = c.next_mask_by_two-marks.result.1 in
    let count = c.runs.count in
    let k = c.lowest-k.result in
    let i = c.runs.at + k in
    let low = c.lowest-k.ensures in
    let next = c.without_lowest-left.ensures in
    let so_far = count + count_ones (slashes % 2 ^ k) in
    let within = sweep_within limit ends text c.runs.at n slashes count c.marks.left k c.marks.invariant.0 low.set in
    let reached = sweep_to limit ends text c.runs.at n slashes count c.marks.left k c.marks.invariant.0 low.set low.below in
    let escape : is_escape (get_or text i 0) (drop (i + 1) text) ≡ true = ap (is_escape (get_or text i 0)) (sym (take_rest text (i + 1))) ∙ (cc) in
    let goes = sign_goes_on ends (get_or text i 0) (drop (i + 1) text) escape in
    let here = reached_here limit ends text so_far i reached within goes in (
      sweep_on limit ends text c.runs.at n slashes count c.marks.left k c.without_lowest-left.result c.marks.invariant.0 low.set low.below
          (λ j. next.kept k j (low.set, low.below)) next.no_more (next.cleared k (low.set, low.below))
          (reached_on limit ends text so_far so_far i reached within goes
          (counted_sign limit (path_front ends text) so_far (get_or text i 0) (path_front ends (drop (i + 1) text)) here
          (front_escape ends (get_or text i 0) (drop (i + 1) text) ∙ escape))),
      λ h. absurd (omega arith),
    )

pub runs-preserved : goal.runs-preserved
runs-preserved c = (
  c.next_mask_by_two-marks.ensures.room,
  sweep_ends c.args.limit c.args.ends c.args.text.now c.runs.at c.next_mask_by_two-marks.result.2 c.next_mask_by_two-marks.result.1 c.runs.count
      c.marks.left c.marks.invariant.0 c.marks-test.false,
  λ h. free_to c.args.text.now c.runs.at c.next_mask_by_two-marks.result.2 c.marks.left c.next_mask_by_two-marks.result.2 (c.marks.invariant.1 h)
      (omega arith) (λ j _. ap (λ m. bit_at m j) c.marks-test.false ∙ bit_at-zero j),
)

pub returns-clause-count : goal.returns-clause-count
returns-clause-count c =
    let ends : drop c.runs.at c.args.text.now ≡ [] = drop_of_length-le c.args.text.now (omega arith) in
    reached_nothing c.args.limit c.args.ends c.args.text.now c.runs.count c.runs.at c.runs.invariant.1 (ap (path_front c.args.ends) ends)
