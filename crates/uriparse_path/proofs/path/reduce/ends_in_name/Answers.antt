use Rattle.std.proofs.Common.{not, sym, ap, ◌∙◌}
use Rattle.uriparse_path.specs.Dots.{is_dot_segment}
use Rattle.uriparse_path.specs.Relative.{is_last}
use Rattle.uriparse_path.proofs.lemmas.normal.RelativeLengthLemmas.{last_push}
use Rattle.uriparse_path.proofs.path.reduce.ends_in_name.Goals as goal

pub returns-in-Some : goal.returns-in-Some
returns-in-Some c =
    ap not c.is_dot_segment.ensures ∙ sym (ap (is_last (λ s. not (is_dot_segment s))) c.in-Some.ensures.cases.0
    ∙ last_push (λ s. not (is_dot_segment s)) c.in-Some.field-0-1.now c.in-Some.last.now)
