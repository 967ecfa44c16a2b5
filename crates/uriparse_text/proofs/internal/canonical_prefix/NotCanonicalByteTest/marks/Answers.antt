use Rattle.std.specs.Prelude.{not}
use Rattle.uriparse_text.specs.Canonical.{may_change}
use Rattle.uriparse_text.specs.Classes.{is_plain}
use Rattle.uriparse_text.specs.Spelling.{is_canonical_byte}
use Rattle.uriparse_text.proofs.lemmas.canonical.CanonicalPrefixLemmas.{masks_of_either, not_canonical_parts}
use Rattle.uriparse_text.proofs.internal.canonical_prefix.NotCanonicalByteTest.marks.Goals as goal

pub returns-in-Lowered : goal.returns-in-Lowered
returns-in-Lowered c =
    let class = c.args.self.now.0 in
    let case = c.args.self.now.1 in
    rw (c.marks-outside.ensures, c.marks.ensures)
    (masks_of_either (λ b. not (is_plain class b)) (may_change case) (λ b. not (is_canonical_byte class case b)) (not_canonical_parts class case) c.args.lanes)
