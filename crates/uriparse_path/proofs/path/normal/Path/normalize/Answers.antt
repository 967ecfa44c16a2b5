use Rattle.std.proofs.Common.{◌≡◌, Bool, true, false, not, refl, ap, ◌∙◌, subst}
use Rattle.std.specs.Prelude.{OnOk}
use Rattle.std.specs.List.{list_all}
use Rattle.std.proofs.lemmas.Bool.{and_parts}
use Rattle.uriparse_path.specs.Normal.{is_canonical, normal_at, pnormal}
use Rattle.uriparse_path.proofs.lemmas.text.CanonicalTextLemmas.{each_is_canonical}
use Rattle.uriparse_path.proofs.lemmas.normal.NormalFormLemmas.{normal_iff}
use Rattle.uriparse_path.proofs.path.normal.Path.normalize.Goals as goal

twice_not : (v : Bool) → not (not v) ≡ v
twice_not true = refl
twice_not false = refl

-- a path on its own is not shielded
pub returns-clause-ok : goal.returns-clause-ok
returns-clause-ok c =
    subst (λ p. OnOk c.normalize_path.result (c.normalize_path.new.path ≡ p))
    (ap (λ q. normal_at q c.args.self.now) c.alone.ensures ∙ ap (pnormal c.args.self.now) (twice_not c.args.as_reference))
    c.normalize_path.ensures.ok

pub returns-clause-takes_no_memory : goal.returns-clause-takes_no_memory
returns-clause-takes_no_memory c e =
    c.normalize_path.ensures.takes_no_memory
    (and_parts (list_all is_canonical c.args.self.now.segments) _ ((normal_iff c.args.self.now c.args.as_reference c.normalize_path.ensures.listed).1 e)).0

pub returns-clause-canonical_takes_no_memory : goal.returns-clause-canonical_takes_no_memory
returns-clause-canonical_takes_no_memory c e =
    c.normalize_path.ensures.takes_no_memory (each_is_canonical c.args.self.now.segments (ap (λ p. p.segments) e))
