use Rattle.std.proofs.Common.{◌≡◌, map, take}
use Rattle.std.specs.Prelude.{◌||◌, not}
use Rattle.std.specs.Simd.Lanes.{mask_l}
use Rattle.uriparse_text.specs.Bytes.{is_among}
use Rattle.uriparse_text.specs.Classes.{is_plain}
use Rattle.uriparse_text.proofs.internal.coding.EncodingWithoutByteTest.marks.Given as goal

abbrev pub invariant-loop-b : goal.invariant-loop-b
invariant-loop-b l =
    l.marks ≡ mask_l (map (λ b. not (is_plain l.self.0 b) || is_among (take l.b-index l.self.1.now) b) l.lanes)
