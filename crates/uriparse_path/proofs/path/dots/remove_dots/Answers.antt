use Rattle.std.proofs.Common.{sym, ◌∙◌}
use Rattle.uriparse_path.proofs.lemmas.normal.ShieldLemmas.{kept_shielded}
use Rattle.uriparse_path.proofs.path.dots.remove_dots.Goals as goal

pub returns-else-has_dots : goal.returns-else-has_dots
returns-else-has_dots c =
    kept_shielded c.args.has_authority c.args.path.now c.has_dots.ensures.listed (sym c.has_dots.ensures.answer ∙ c.if-has_dots.false) c.requires
