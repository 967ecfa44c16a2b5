use Rattle.std.proofs.Common.{refl}
use Rattle.std.specs.Prelude.{◌==◌, ◌||◌}
use Rattle.uriparse_text.specs.Bytes.{percent, plus_sign}
use Rattle.uriparse_text.proofs.lemmas.canonical.CanonicalPrefixLemmas.{masks_of_either}
use Rattle.uriparse_text.proofs.internal.coding.FormDecodingByteTest.marks.Goals as goal

pub returns : goal.returns
returns c =
    rw (c.marks.ensures, c.marks-2.ensures)
    (masks_of_either (λ b. b == percent) (λ b. b == plus_sign) (λ b. b == percent || b == plus_sign) (λ b. refl) c.args.lanes)
