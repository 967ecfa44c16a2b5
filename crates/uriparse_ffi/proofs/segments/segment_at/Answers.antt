use Rattle.std.proofs.Common.{◌≡◌, ◌≤◌, ◌+◌, Some, length, drop, refl, ap, ◌∙◌, rules}
use Rattle.uriparse_text.specs.Bytes.{slash}
use Rattle.uriparse_text.specs.Cuts.{before}
use Rattle.uriparse_ffi.specs.Segments.{segment_begin, segments_left}
use Rattle.uriparse_ffi.specs.Spans.{span}
use Rattle.uriparse_ffi.specs.declared.span.UriSpan.{UriSpan}
use Rattle.uriparse_ffi.proofs.lemmas.PairLemmas.{to_end}
use Rattle.uriparse_ffi.proofs.lemmas.SegmentLemmas.{first_is, next_segment, not_none}
use Rattle.uriparse_ffi.proofs.segments.segment_at.Goals as goal

pub returns-clause-found : goal.returns-clause-found
returns-clause-found c s ss h =
    let within : c.args.at ≤ length c.args.path.now = search rules in
    let first = first_is _ _ _ _ s (next_segment c.args.path.now c.args.at within) h in
    let begin = c.begin_of-begin.ensures in
    let piece : c.split_at_delimiter.result.0.now ≡ before slash (drop (segment_begin c.args.path.now c.args.at) c.args.path.now) =
    c.split_at_delimiter.ensures.front ∙ ap (before slash) (to_end c.args.path.now c.begin_of-begin.result ∙ ap (λ n. drop n c.args.path.now) begin) in
    (refl, c.place.ensures ∙ ap (λ n. span n (Some c.split_at_delimiter.result.0.now)) begin ∙ ap (λ t. span (segment_begin c.args.path.now c.args.at) (Some t)) (piece ∙ first.0))

pub returns-clause-others : goal.returns-clause-others
returns-clause-others c s ss h =
    let t = c.args.path.now in
    let within : c.args.at ≤ length t = search rules in
    let first = first_is _ _ _ _ s (next_segment t c.args.at within) h in
    let begin = c.begin_of-begin.ensures in
    let piece : c.split_at_delimiter.result.0.now ≡ before slash (drop (segment_begin t c.args.at) t) =
    c.split_at_delimiter.ensures.front ∙ ap (before slash) (to_end t c.begin_of-begin.result ∙ ap (λ n. drop n t) begin) in
    let end : c.place.result.end ≡ segment_begin t c.args.at + length (before slash (drop (segment_begin t c.args.at) t)) =
    ap (λ (o : UriSpan). o.end) c.place.ensures ∙ ap (λ n. n + length c.split_at_delimiter.result.0.now) begin ∙ ap (λ u. segment_begin t c.args.at + length u) piece in
    ap (λ n. segments_left t (n + 1)) end ∙ first.1

pub returns-clause-none : goal.returns-clause-none
returns-clause-none c h =
    let within : c.args.at ≤ length c.args.path.now = search rules in
    absurd (not_none _ _ _ (next_segment c.args.path.now c.args.at within) h)
