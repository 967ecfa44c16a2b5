use Rattle.std.proofs.Common.{◌≡◌, ◌+◌, ◌∷◌, ◌++◌, [], take, refl, arith}
use Rattle.std.specs.List.{flat_map}
use Rattle.std.proofs.lemmas.Grind.{common_steps}
use Rattle.std.proofs.Output.{has_written_append, has_written_of_eq, has_written_styled_append, has_written_styled_of_eq}
use Rattle.uriparse_text.specs.Bytes.{slash}
use Rattle.uriparse_path.proofs.path.write_after_slashes.Goals as goal

pub loop-segment-preserved : goal.loop-segment-preserved
loop-segment-preserved g c =
    let i = c.loop-segment.segment-index in
    let l = c.args.segments.now in
    let whole : (flat_map (λ s. slash ∷ s) (take i l) ++ slash ∷ []) ++ c.as_str.result.now ≡ flat_map (λ s. slash ∷ s) (take (i + 1) l) =
    grind (arith, common_steps) in
    record {
      plain = λ plain.
          let so_far = c.loop-segment.invariant.plain plain in
          let first = c.in_ok-write_str.ensures.writes so_far.plain refl in
          let second = c.in_ok-write_str-2.ensures.writes first.plain refl in
          has_written_of_eq _ _ _ _ _ whole (has_written_append _ _ _ _ _ _ (has_written_append _ _ _ _ _ _ so_far first) second);
      styled = λ flush.
          let so_far = c.loop-segment.invariant.styled flush in
          let first = c.in_ok-write_str.ensures.styled so_far.flush refl in
          let second = c.in_ok-write_str-2.ensures.styled first.flush refl in
          has_written_styled_of_eq _ _ _ _ _ whole (has_written_styled_append _ _ _ _ _ _ (has_written_styled_append _ _ _ _ _ _ so_far first) second);
    }
