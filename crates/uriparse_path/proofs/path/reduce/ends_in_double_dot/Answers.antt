use Rattle.std.proofs.Common.{sym, ap, ◌∙◌}
use Rattle.uriparse_path.specs.Dots.{is_double_dot}
use Rattle.uriparse_path.specs.Relative.{is_last}
use Rattle.uriparse_path.proofs.lemmas.normal.RelativeLengthLemmas.{last_push}
use Rattle.uriparse_path.proofs.path.reduce.ends_in_double_dot.Goals as goal

pub returns-in-Some : goal.returns-in-Some
returns-in-Some c =
    c.is_double_dot_segment.ensures ∙ sym (ap (is_last is_double_dot) c.in-Some.ensures.cases.0
    ∙ last_push is_double_dot c.in-Some.field-0-1.now c.in-Some.last.now)
