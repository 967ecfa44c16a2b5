use Rattle.std.proofs.Common.{cond, [], ◌∷◌, length, sym, ap, ◌∙◌, ◌&&◌}
use Rattle.std.specs.Prelude.{◌==◌, is_some}
use Rattle.uriparse_text.specs.Bytes.{slash}
use Rattle.uriparse_path.specs.Path.{text}
use Rattle.uriparse_reference.specs.Cuts.{path_text}
use Rattle.uriparse_reference.specs.View.{Viewed}
use Rattle.uriparse_reference.proofs.lemmas.reading.ViewLemmas.{found_path}
use Rattle.uriparse_reference.proofs.lemmas.writing.SameTextLemmas.{own_path}
use Rattle.uriparse_reference.proofs.uri_reference.view.ReferenceView.has_own_path_text.Goals as goal

pub returns : goal.returns
returns c =
    let h = c.self.inside.pieces.tail.path.now in
    let read = c.self.invariant.is_cut ∙ ap (λ (v : Viewed). path_text v.text) c.self.view_is in
    let there = ap (λ (v : Viewed). is_some v.parts.authority) c.self.view_is in
    let implied = c.has_implied_root.ensures in
    own_path c.has_implied_root.result (is_some c.args.self.now.parts.authority) (path_text c.args.self.now.text) (text c.args.self.now.parts.path) implied
    (sym (ap (λ (v : Viewed). text v.parts.path) c.self.view_is) ∙ found_path _ _ _ _ _ _ _ _ _ c.self.invariant
    ∙ ap (λ t. cond ((length t == 0) && is_some c.self.inside.pieces.authority) (slash ∷ []) t) read
    ∙ ap (λ v. cond v (slash ∷ []) (path_text c.args.self.now.text)) (ap (λ o. (length (path_text c.args.self.now.text) == 0) && o) there ∙ sym implied))
