use Rattle.std.proofs.Common.{◌≡◌, ap, ◌∙◌, subst}
use Rattle.uriparse_path.specs.Normal.{normal_at}
use Rattle.uriparse_reference.proofs.lemmas.normalizing.NormalizingLemmas.{placed_normal}
use Rattle.uriparse_reference.proofs.uri_reference.normal.normalize_tail.Goals as goal

pub returns-clause-path : goal.returns-clause-path
returns-clause-path c =
    subst (λ p. c.normalize_path.new.path ≡ p)
    (ap (λ q. normal_at q c.args.path.now) c.context_of.ensures ∙ placed_normal c.args.scheme.now c.args.authority.now c.args.path.now)
    c.in_ok-normalize_path.ensures.ok
