use Rattle.std.proofs.Common.{sym, ◌∙◌}
use Rattle.uriparse_path.proofs.lemmas.text.DotCandidateLemmas.{first_undotted}
use Rattle.uriparse_path.proofs.path.text.last.begins_with_dots.Goals as goal

pub returns-else-begins_like_dot_segment : goal.returns-else-begins_like_dot_segment
returns-else-begins_like_dot_segment c =
    c.if-begins_like_dot_segment.false ∙ sym (first_undotted c.args.text.now (sym c.begins_like_dot_segment.ensures ∙ c.if-begins_like_dot_segment.false))
