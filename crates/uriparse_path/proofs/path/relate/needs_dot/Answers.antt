use Rattle.std.proofs.Common.{sym, ◌∙◌}
use Rattle.uriparse_path.proofs.lemmas.merge.LeadingPathLemmas.{double_dots_untaken}
use Rattle.uriparse_path.proofs.path.relate.needs_dot.Goals as goal

pub returns-else-is_empty : goal.returns-else-is_empty
returns-else-is_empty c =
    c.if-is_empty.false
    ∙ sym (double_dots_untaken c.args.directories.now c.args.segments.now (sym c.is_empty.ensures ∙ c.if-is_empty.false))
