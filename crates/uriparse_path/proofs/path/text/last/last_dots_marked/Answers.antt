use Rattle.std.proofs.Common.{◌≡◌, ℕ, ◌+◌, ◌-◌, ◌<◌, ◌≤◌, true, false, drop, sym, ap, subst, ◌∙◌, arith}
use Rattle.std.specs.Int.{bit_at}
use Rattle.std.specs.List.{list_all, slice_split}
use Rattle.std.proofs.lemmas.List.{take_rest}
use Rattle.std.proofs.lemmas.Nat.Bits.{bit_at-zero}
use Rattle.uriparse_text.specs.Segment.{is_segment}
use Rattle.uriparse_path.specs.Path.{is_slash}
use Rattle.uriparse_path.specs.Dots.{is_dot_segment}
use Rattle.uriparse_path.specs.Last.{LacksDotsAfter, begins_segment}
use Rattle.uriparse_path.specs.Relative.{is_first}
use Rattle.uriparse_path.proofs.lemmas.text.DotCandidateLemmas.{segments_from}
use Rattle.uriparse_path.proofs.lemmas.text.LastLemmas.{begins_marked, below_unset, lower_marked, lower_unmarked}
use Rattle.uriparse_path.proofs.path.text.last.last_dots_marked.Goals as goal

pub has_dots_first-requires : goal.has_dots_first-requires
has_dots_first-requires c =
    let t = c.args.text.now in
    let k = c.highest-end.result in
    let below : k < c.marks.end = below_unset c.marks.left k c.marks.end c.highest-end.ensures.set c.marks.invariant.gone in
    let begins : begins_segment (c.args.at + k) t ≡ true =
    begins_marked t c.args.at c.args.count c.args.marks k c.requires.after c.requires.marks (omega (arith, below, c.marks.invariant.below))
    (sym (c.marks.invariant.kept k below) ∙ c.highest-end.ensures.set) in
    subst (λ u. list_all is_segment (slice_split is_slash u) ≡ true) (sym (take_rest t (c.args.at + k)))
    (segments_from t (c.args.at + k) begins (omega (arith, below, c.marks.invariant.below, c.requires.within)) c.requires.segments).1

pub returns-then-has_dots_first : goal.returns-then-has_dots_first
returns-then-has_dots_first c =
    let t = c.args.text.now in
    let k = c.highest-end.result in
    let below : k < c.marks.end = below_unset c.marks.left k c.marks.end c.highest-end.ensures.set c.marks.invariant.gone in
    let none : (j : ℕ) → k < j → j < c.marks.end → bit_at c.args.marks j ≡ 0 =
    λ j past before. sym (c.marks.invariant.kept j before) ∙ c.highest-end.ensures.above j past in
    record {
      within = omega (arith, below, c.marks.invariant.below, c.requires.within);
      begins =
          begins_marked t c.args.at c.args.count c.args.marks k c.requires.after c.requires.marks (omega (arith, below, c.marks.invariant.below))
          (sym (c.marks.invariant.kept k below) ∙ c.highest-end.ensures.set);
      dots =
          sym (ap (λ u. is_first is_dot_segment (slice_split is_slash u)) (take_rest t (c.args.at + k)))
          ∙ sym c.has_dots_first.ensures ∙ c.if-has_dots_first.true;
      later =
          (lower_marked t c.args.at c.args.count c.args.marks k c.marks.end c.requires.after c.requires.within c.requires.marks below
          c.marks.invariant.below none c.marks.invariant.later).0;
    }

pub marks-preserved : goal.marks-preserved
marks-preserved c =
    let t = c.args.text.now in
    let k = c.highest-end.result in
    let below : k < c.marks.end = below_unset c.marks.left k c.marks.end c.highest-end.ensures.set c.marks.invariant.gone in
    let none : (j : ℕ) → k < j → j < c.marks.end → bit_at c.args.marks j ≡ 0 =
    λ j past before. sym (c.marks.invariant.kept j before) ∙ c.highest-end.ensures.above j past in
    let undotted : is_first is_dot_segment (slice_split is_slash (drop (c.args.at + k) t)) ≡ false =
    sym (ap (λ u. is_first is_dot_segment (slice_split is_slash u)) (take_rest t (c.args.at + k)))
    ∙ sym c.has_dots_first.ensures ∙ c.if-has_dots_first.false in
    record {
      below = omega (arith, below, c.marks.invariant.below);
      kept = λ j h. c.bits_below-left-in-marks.ensures.kept j h ∙ c.marks.invariant.kept j (omega (arith, below));
      gone = c.bits_below-left-in-marks.ensures.gone;
      later =
          (lower_marked t c.args.at c.args.count c.args.marks k c.marks.end c.requires.after c.requires.within c.requires.marks below
          c.marks.invariant.below none c.marks.invariant.later).1 undotted;
    }

pub returns : goal.returns
returns c =
    let t = c.args.text.now in
    let none : (j : ℕ) → 0 ≤ j → j < c.marks.end → bit_at c.args.marks j ≡ 0 =
    λ j _ before. sym (c.marks.invariant.kept j before) ∙ ap (λ m. bit_at m j) c.marks-test.false ∙ bit_at-zero j in
    let same : c.args.at - 1 + 0 ≡ c.args.at - 1 = omega arith in
    subst (λ i. LacksDotsAfter i t) same
    (lower_unmarked t c.args.at c.args.count c.args.marks 0 c.marks.end c.requires.after c.requires.within c.requires.marks (omega arith)
    c.marks.invariant.below none c.marks.invariant.later)
