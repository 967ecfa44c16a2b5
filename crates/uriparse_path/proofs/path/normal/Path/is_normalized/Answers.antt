use Rattle.std.proofs.Common.{◌≡◌, ◌↔◌, true}
use Rattle.uriparse_path.specs.Path.{text}
use Rattle.uriparse_path.specs.Normal.{pnormal}
use Rattle.uriparse_path.proofs.lemmas.normal.NormalFormLemmas.{normal_iff, normal_kept}
use Rattle.uriparse_path.proofs.lemmas.dots.ReplayInPlaceLemmas.{tested}
use Rattle.uriparse_path.proofs.path.normal.Path.is_normalized.Goals as goal

pub returns-clause-text : goal.returns-clause-text
returns-clause-text c =
    tested c.args.self.now c.args.as_reference c.stays_relative.result c.is_normal.result c.is_normal.ensures.listed c.stays_relative.ensures
    c.is_normal.ensures.answer

pub returns-clause-form : goal.returns-clause-form
returns-clause-form c =
    let exact : (c.is_normal.result ≡ true) ↔ (text (pnormal c.args.self.now c.args.as_reference) ≡ text c.args.self.now) =
    tested c.args.self.now c.args.as_reference c.stays_relative.result c.is_normal.result c.is_normal.ensures.listed c.stays_relative.ensures
    c.is_normal.ensures.answer in
    λ h. normal_kept c.args.self.now c.args.as_reference c.is_normal.ensures.listed
    ((normal_iff c.args.self.now c.args.as_reference c.is_normal.ensures.listed).1 (exact.0 h))
