use Rattle.std.proofs.Common.{ap, ◌∙◌, slice_get, length, arith}
use Rattle.uriparse_text.proofs.lemmas.canonical.DotLemmas.{first_of_dots, none_of_dots, dots_short}
use Rattle.uriparse_text.proofs.segment.Segment.may_be_dots.Goals as goal

pub returns-then-as_bytes-gt6 : goal.returns-then-as_bytes-gt6
returns-then-as_bytes-gt6 c h = absurd (omega (arith, dots_short c.args.self.now h, ap length c.as_bytes.ensures.value))

pub returns-else-b-eq46 : goal.returns-else-b-eq46
returns-else-b-eq46 c =
    first_of_dots c.args.self.now c.in-Some.field-0.now (c.in-Some.ensures.value ∙ ap (λ s. slice_get s 0) c.as_bytes-2.ensures.value) c.if-b-eq46.false

pub returns-in-None : goal.returns-in-None
returns-in-None c = none_of_dots c.args.self.now (c.in-None.ensures.value ∙ ap (λ s. slice_get s 0) c.as_bytes-2.ensures.value)
