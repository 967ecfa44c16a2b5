use Rattle.std.proofs.Common.{◌∷◌, take}
use Rattle.std.specs.List.{flat_map}
use Rattle.std.specs.Fmt.{HasWritten, HasWrittenStyled, IsPlainFormatter, IsFlush}
use Rattle.uriparse_text.specs.Bytes.{slash}
use Rattle.uriparse_path.proofs.path.write_after_slashes.Given as goal

abbrev pub invariant-loop-segment : goal.invariant-loop-segment
invariant-loop-segment g l = record {
  plain : IsPlainFormatter l.initial.f
      → HasWritten g.W.Write.write_str_gives l.initial.f (flat_map (λ s. slash ∷ s) (take l.segment-index l.segments)) l.f;
  styled : IsFlush l.initial.f
      → HasWrittenStyled g.W.Write.write_str_gives l.initial.f (flat_map (λ s. slash ∷ s) (take l.segment-index l.segments)) l.f;
}
