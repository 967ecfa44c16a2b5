use Rattle.std.proofs.Common.{◌≡◌, ◌+◌, ◌-◌, ap, length, nat_lt, arith}
use Rattle.uriparse_path.specs.Path.{max_segments, pieces}
use Rattle.uriparse_reference.specs.Target.{merge}
use Rattle.uriparse_reference.proofs.lemmas.writing.TargetLemmas.{merged_length}
use Rattle.uriparse_reference.proofs.uri_reference.view.ReferenceView.merges_too_long.Goals as goal

pub overflow_sub-result : goal.overflow_sub-result
overflow_sub-result c =
    let some = c.segment_count.ensures.valid.is_path.some in
    let count = c.segment_count.ensures.count in
    omega arith

pub overflow_add-result : goal.overflow_add-result
unfolding max_segments
overflow_add-result c =
    let base = c.segment_count.ensures.valid.is_path.short in
    let count = c.segment_count.ensures.count in
    let reference = c.segment_count-2.ensures.valid.is_path.short in
    let other = c.segment_count-2.ensures.count in
    omega arith

pub returns : goal.returns
unfolding max_segments
returns c =
    let some = c.segment_count.ensures.valid.is_path.some in
    let count = c.segment_count.ensures.count in
    let other = c.segment_count-2.ensures.count in
    let whole = merged_length c.args.self.now.parts c.args.reference.now.parts c.segment_count.ensures.valid c.segment_count-2.ensures.valid c.requires in
    let same : c.segment_count.result - 1 + c.segment_count-2.result ≡ length (pieces (merge c.args.self.now.parts c.args.reference.now.parts)) = omega arith in
    ap (nat_lt 1000000) same
