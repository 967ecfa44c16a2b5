use Rattle.std.proofs.Common.{◌||◌, not, sym, ap, ◌∙◌}
use Rattle.uriparse_path.specs.Relative.{is_first, has_colon}
use Rattle.uriparse_path.proofs.lemmas.text.BeginningLemmas.{colon-text}
use Rattle.uriparse_path.proofs.path.start.lacks_colon_segment.Goals as goal

pub returns-else-is_rooted : goal.returns-else-is_rooted
returns-else-is_rooted c =
    ap not (c.has_first_colon.ensures ∙ ap (is_first has_colon) c.segments.ensures.value)
    ∙ sym (ap (λ v. v || not (is_first has_colon c.args.path.now.segments)) (sym c.is_rooted.ensures ∙ c.if-is_rooted.false))
    ∙ colon-text c.args.path.now c.segments.ensures.listed
