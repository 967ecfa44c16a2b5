use Rattle.std.proofs.Common.{◌∷◌, ◌++◌, [], arith, length, length-append, sym, ap, ◌∙◌}
use Rattle.std.proofs.lemmas.List.{take_rest}
use Rattle.std.specs.List.{list_any}
use Rattle.uriparse_text.specs.Segment.{is_segment}
use Rattle.uriparse_path.specs.Counts.{begins_with_dot}
use Rattle.uriparse_path.proofs.lemmas.reading.CuttingWalkLemmas.{fewer_cut, last_fewer, piece_is_segment, lacks_piece, run_on, run_begins, run_ends, last_whole, last_is_segment}
use Rattle.std.proofs.lemmas.Bool.{eqb-true}
use Rattle.uriparse_path.proofs.lemmas.reading.NoEscapeLemmas.{any_push}
use Rattle.uriparse_path.proofs.lemmas.list.SegmentCountLemmas.{unescaped_stays}
use Rattle.uriparse_path.proofs.path.read.split_segments.Goals as goal

pub text_from_checked-requires : goal.text_from_checked-requires
text_from_checked-requires c = record {
  inside =
      piece_is_segment c.args.text.now c.marks.segments.items c.marks.start c.runs.at c.next_mask-marks.result.1 c.marks.left c.marks.invariant.0
      c.lowest.result c.lowest.ensures.set c.lowest.ensures.below c.requires.segments;
  canonical = λ e. unescaped_stays _ (lacks_piece c.args.text.now c.marks.start _ (c.requires.escaped (eqb-true c.args.escaped 0 e)));
}

pub push_reserved-requires : goal.push_reserved-requires
push_reserved-requires c =
    let fewer = fewer_cut c.args.text.now c.marks.segments.items c.marks.start c.runs.at c.next_mask-marks.result.1 c.marks.left c.marks.invariant.0
    c.lowest.result c.lowest.ensures.set c.lowest.ensures.below in
    let len = c.marks.invariant.2 in let room = c.marks.invariant.3 in let all = c.requires.count in omega (arith, fewer, len, room, all)

pub push_reserved-requires-2 : goal.push_reserved-requires-2
push_reserved-requires-2 c =
    let fewer = last_fewer c.args.text.now c.runs.segments.items c.runs.start c.runs.at c.runs.invariant.0 c.runs-test.false in
    let len = c.runs.invariant.2 in let room = c.runs.invariant.3 in let all = c.requires.count in omega (arith, fewer, len, room, all)

pub marks-init : goal.marks-init
marks-init c = (
  run_begins c.args.text.now c.runs.segments.items c.runs.start c.runs.at c.next_mask-marks.result.1 c.next_mask-marks.result.0
      c.runs.invariant.0 c.next_mask-marks.ensures.room c.next_mask-marks.ensures.marks,
  c.runs.invariant.1,
  c.runs.invariant.2,
  c.runs.invariant.3,
)

pub marks-preserved : goal.marks-preserved
marks-preserved c =
    let low = c.lowest.ensures in
    let next = c.without_lowest-left.ensures in
    let k = c.lowest.result in (
      rw (c.push_reserved.ensures.items, c.text_from_checked.ensures)
          (run_on c.args.text.now c.marks.segments.items c.marks.start c.runs.at c.next_mask-marks.result.1 c.marks.left c.marks.invariant.0
          k low.set low.below c.without_lowest-left.result (λ j. next.kept k j (low.set, low.below)) next.no_more (next.cleared k (low.set, low.below))),
      c.is_dotted-dotted.ensures
          ∙ any_push begins_with_dot c.marks.segments.items _ c.marks.dotted c.marks.invariant.1
          ∙ ap (λ s. list_any begins_with_dot (c.marks.segments.items ++ s ∷ [])) (sym c.text_from_checked.ensures)
          ∙ ap (list_any begins_with_dot) (sym c.push_reserved.ensures.items),
      (let items = ap length c.push_reserved.ensures.items in let len = c.push_reserved.ensures.len in let was = c.marks.invariant.2 in
          let more = length-append c.marks.segments.items (c.text_from_checked.result ∷ []) in omega (arith, items, len, was, more)),
      c.push_reserved.ensures.capacity ∙ c.marks.invariant.3,
    )

pub runs-preserved : goal.runs-preserved
runs-preserved c = (
  run_ends c.args.text.now c.marks.segments.items c.marks.start c.runs.at c.next_mask-marks.result.1 c.marks.left c.marks.invariant.0 c.marks-test.false,
  c.marks.invariant.1,
  c.marks.invariant.2,
  c.marks.invariant.3,
)

pub text_from_checked-requires-2 : goal.text_from_checked-requires-2
text_from_checked-requires-2 c = record {
  inside =
      ap is_segment (take_rest c.args.text.now c.runs.start)
      ∙ last_is_segment c.args.text.now c.runs.segments.items c.runs.start c.runs.at c.runs.invariant.0 c.runs-test.false c.requires.segments;
  canonical = λ e. unescaped_stays _ (lacks_piece c.args.text.now c.runs.start _ (c.requires.escaped (eqb-true c.args.escaped 0 e)));
}

pub returns : goal.returns
returns c =
    let whole = last_whole c.args.text.now c.runs.segments.items c.runs.start c.runs.at c.runs.invariant.0 c.runs-test.false in
    let rest = take_rest c.args.text.now c.runs.start in (
      rw (c.push_reserved-2.ensures.items, c.text_from_checked-2.ensures, rest) whole,
      c.is_dotted-dotted-2.ensures
          ∙ any_push begins_with_dot c.runs.segments.items _ c.runs.dotted c.runs.invariant.1
          ∙ ap (λ s. list_any begins_with_dot (c.runs.segments.items ++ s ∷ [])) rest
          ∙ ap (list_any begins_with_dot) whole,
    )
