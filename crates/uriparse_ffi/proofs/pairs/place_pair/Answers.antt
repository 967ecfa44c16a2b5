use Rattle.std.proofs.Common.{◌≡◌, ◌+◌, length, Some, sym, ap, ◌∙◌, arith}
use Rattle.std.specs.Prelude.{min}
use Rattle.std.specs.Option.{option_copied}
use Rattle.uriparse_text.specs.Bytes.{colon, equals_sign}
use Rattle.uriparse_text.specs.Cuts.{following, after, part}
use Rattle.uriparse_text.specs.Starts.{most}
use Rattle.uriparse_text.proofs.lemmas.readings.PairLemmas.{piece_back}
use Rattle.uriparse_ffi.specs.Spans.{span}
use Rattle.uriparse_ffi.specs.declared.span.UriSpan.{UriSpan}
use Rattle.uriparse_ffi.proofs.lemmas.PairLemmas.{cut_size}
use Rattle.uriparse_ffi.proofs.lemmas.PlaceLemmas.{after_size}
use Rattle.uriparse_ffi.proofs.pairs.place_pair.Goals as goal

pub place-name-requires : goal.place-name-requires
place-name-requires c =
    let room = c.requires in
    let name = ap length c.split_at_delimiter.ensures.front in
    let whole = cut_size equals_sign c.args.piece.now in
    omega arith

pub offset_after-requires : goal.offset_after-requires
offset_after-requires c =
    let t = c.args.piece.now in
    let room = c.requires in
    let end = ap (λ (s : UriSpan). s.end) c.place-name.ensures in
    let name = ap length c.split_at_delimiter.ensures.front in
    let value : length (following colon (option_copied c.without_delimiter.result)) ≡ length (following equals_sign (after equals_sign t)) =
    ap (λ o. length (following colon o)) (c.without_delimiter.ensures ∙ ap part c.split_at_delimiter.ensures.rest) ∙ after_size colon equals_sign (after equals_sign t) in
    let whole = cut_size equals_sign t in
    omega arith

pub returns : goal.returns
returns c = record {
  name = c.place-name.ensures ∙ ap (λ t. span c.args.at (Some t)) c.split_at_delimiter.ensures.front;
  value = c.offset_after.ensures ∙ ap (span (c.place-name.result.end + 1)) (c.without_delimiter.ensures ∙ ap part c.split_at_delimiter.ensures.rest);
  next = c.saturating_add.ensures ∙ ap (λ t. min (c.args.at + length t + 1) most) (sym (piece_back c.args.piece.now));
}
