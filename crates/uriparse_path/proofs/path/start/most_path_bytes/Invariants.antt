use Rattle.std.proofs.Common.{◌≡◌, ◌⊎◌, ◌≤◌, ◌∷◌, length, take}
use Rattle.std.specs.List.{flat_map}
use Rattle.uriparse_text.specs.Bytes.{slash}
use Rattle.uriparse_path.proofs.path.start.most_path_bytes.Given as goal

abbrev pub invariant-loop-segment : goal.invariant-loop-segment
invariant-loop-segment l = (length (flat_map (λ s. slash ∷ s) (take l.segment-index l.segment-items)) ≤ l.len) ⊎ (l.len ≡ 18446744073709551615)
