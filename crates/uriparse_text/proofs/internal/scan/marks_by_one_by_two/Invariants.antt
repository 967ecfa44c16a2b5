use Rattle.std.proofs.Common.{◌≡◌, ◌≤◌, length, map, drop}
use Rattle.std.specs.Simd.Lanes.{mask_l}
use Rattle.uriparse_text.proofs.internal.scan.marks_by_one_by_two.Given as goal

abbrev pub invariant-bytes : goal.invariant-bytes
invariant-bytes g l = record {
  low : l.from ≤ l.at;
  high : l.at ≤ length l.text;
  marks : l.marks ≡ mask_l (map (g.T.ByteTest.passes l.test) (drop l.at l.text));
  others : l.others ≡ mask_l (map (g.U.ByteTest.passes l.other) (drop l.at l.text));
}

abbrev pub decreases-bytes : goal.decreases-bytes
decreases-bytes g l = l.at
