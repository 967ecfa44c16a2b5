use Rattle.std.proofs.Common.{◌||◌, sym, ap, ◌∙◌}
use Rattle.uriparse_path.specs.Path.{starts_with_empty_segment}
use Rattle.uriparse_path.proofs.lemmas.normal.NormalFormLemmas.{rooted-text}
use Rattle.uriparse_path.proofs.path.Path.is_rooted.Goals as goal

pub returns-else-is_absolute : goal.returns-else-is_absolute
returns-else-is_absolute c =
    c.starts_with_empty_segment.ensures
    ∙ ap starts_with_empty_segment c.segments.ensures.value
    ∙ sym (rooted-text c.args.self.now c.segments.ensures.listed
    ∙ ap (λ v. v || starts_with_empty_segment c.args.self.now.segments) (sym c.is_absolute.ensures ∙ c.if-is_absolute.false))
