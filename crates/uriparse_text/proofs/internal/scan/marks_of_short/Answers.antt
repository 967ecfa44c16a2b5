use Rattle.std.proofs.Common.{map, ap, ◌∙◌}
use Rattle.std.specs.Simd.Lanes.{mask_l}
use Rattle.uriparse_text.proofs.lemmas.scans.MarkLemmas.{ends_small, joined_are_marks}
use Rattle.uriparse_text.proofs.internal.scan.marks_of_short.Goals as goal

pub joined_ends-requires-clause-small : goal.joined_ends-requires-clause-small
joined_ends-requires-clause-small g c =
    let p = g.T.ByteTest.passes c.args.test.now in
    ends_small p c.args.text.now c.marks.result c.requires.least (c.marks.ensures ∙ ap (λ lanes. mask_l (map p lanes)) c.ends.ensures)

pub returns : goal.returns
returns g c =
    let p = g.T.ByteTest.passes c.args.test.now in
    joined_are_marks p c.args.text.now c.marks.result c.joined_ends.result c.requires.least c.requires.most
    (c.marks.ensures ∙ ap (λ lanes. mask_l (map p lanes)) c.ends.ensures) c.joined_ends.ensures.low c.joined_ends.ensures.high
