use Rattle.std.proofs.Common.{[], ◌∷◌, ap, sym, subst, ◌∙◌}
use Rattle.uriparse_path.specs.Path.{IsListed}
use Rattle.uriparse_path.proofs.lemmas.merge.LeadingPathLemmas.{listed_empty}
use Rattle.uriparse_path.proofs.path.relate.empty_path.Goals as goal

pub of-requires-clause-listed : goal.of-requires-clause-listed
of-requires-clause-listed c =
    subst IsListed (sym (c.one-list.ensures ∙ ap (λ s. s ∷ []) c.empty.ensures))
    listed_empty
