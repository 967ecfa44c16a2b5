use Rattle.std.proofs.Common.{◌≡◌, false, cond, [], ◌∷◌, length, sym, ap, subst, ◌∙◌, ◌&&◌}
use Rattle.std.specs.Prelude.{◌==◌, is_some}
use Rattle.uriparse_text.specs.Bytes.{slash}
use Rattle.uriparse_path.specs.Path.{text}
use Rattle.uriparse_reference.specs.Cuts.{path_text}
use Rattle.uriparse_reference.specs.Reference.{Valid}
use Rattle.uriparse_reference.specs.View.{Viewed}
use Rattle.uriparse_reference.proofs.lemmas.reading.ViewLemmas.{found_path, found_valid}
use Rattle.uriparse_reference.proofs.uri_reference.view.ReferenceView.path_bytes.Goals as goal

pub returns-else-has_implied_root-clause-text : goal.returns-else-has_implied_root-clause-text
returns-else-has_implied_root-clause-text c =
    let h = c.self.inside.pieces.tail.path.now in
    let a = c.self.inside.pieces.authority in
    let read = c.self.invariant.is_cut ∙ ap (λ (v : Viewed). path_text v.text) c.self.view_is in
    let there = ap (λ (v : Viewed). is_some v.parts.authority) c.self.view_is in
    let kept : ((length h == 0) && is_some a) ≡ false =
    ap (λ t. (length t == 0) && is_some a) read
    ∙ ap (λ o. (length (path_text c.args.self.now.text) == 0) && o) there
    ∙ sym c.has_implied_root.ensures
    ∙ c.if-has_implied_root.false in
    sym (ap (λ (v : Viewed). text v.parts.path) (sym c.self.view_is) ∙ found_path _ _ _ _ _ _ _ _ _ c.self.invariant ∙ ap (λ v. cond v (slash ∷ []) h) kept)

pub returns-then-has_implied_root-clause-valid : goal.returns-then-has_implied_root-clause-valid
returns-then-has_implied_root-clause-valid c = subst (λ v. Valid v.parts) c.self.view_is (found_valid _ _ _ _ _ _ _ _ _ c.self.invariant)

pub returns-else-has_implied_root-clause-valid : goal.returns-else-has_implied_root-clause-valid
returns-else-has_implied_root-clause-valid c = subst (λ v. Valid v.parts) c.self.view_is (found_valid _ _ _ _ _ _ _ _ _ c.self.invariant)
