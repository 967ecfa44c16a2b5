use Rattle.std.proofs.Common.{◌&&◌, ◌||◌, drop, ap, ◌∙◌}
use Rattle.uriparse_path.specs.Path.{starts_with_empty_segment}
use Rattle.uriparse_path.proofs.lemmas.text.BeginningLemmas.{two_slashes-text}
use Rattle.uriparse_path.proofs.path.start.has_two_slashes.Goals as goal

pub returns-clause-answer : goal.returns-clause-answer
returns-clause-answer c =
    c.starts_with_two_slashes.ensures
    ∙ ap (λ v. starts_with_empty_segment c.segments.result.now && (v || starts_with_empty_segment (drop 1 c.segments.result.now))) c.is_absolute.ensures
    ∙ ap (λ l. starts_with_empty_segment l && (c.args.path.now.absolute || starts_with_empty_segment (drop 1 l))) c.segments.ensures.value
    ∙ two_slashes-text c.args.path.now c.segments.ensures.listed
