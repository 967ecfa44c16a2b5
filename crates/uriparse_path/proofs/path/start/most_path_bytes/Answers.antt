use Rattle.std.proofs.Common.{◌≡◌, ◌⊎◌, ◌≤◌, ℕ, ◌∷◌, List, length, take_all, subst, sym}
use Rattle.std.specs.List.{flat_map}
use Rattle.uriparse_text.specs.Bytes.{slash}
use Rattle.uriparse_text.proofs.lemmas.readings.SaturatingLemmas.{most_of}
use Rattle.uriparse_path.specs.Path.{PathParts, flag, text}
use Rattle.uriparse_path.proofs.lemmas.text.PathTextLemmas.{length-text}
use Rattle.uriparse_path.proofs.path.start.most_path_bytes.Goals as goal

pub returns : goal.returns
returns c =
    let m : ℕ = 18446744073709551615 in
    let p : PathParts = record { absolute = flag c.path.inside.absolute; segments = c.path.inside.segments } in
    let ss : List (List ℕ) = c.as_slice-segment-items.result.now in
    let read : length (text p) ≤ length (flat_map (λ s. slash ∷ s) ss) =
    subst (λ l. length (text p) ≤ length (flat_map (λ s. slash ∷ s) l)) (sym c.as_slice-segment-items.ensures) (length-text p c.path.invariant.some) in
    let shown : length (text c.args.path.now) ≤ length (flat_map (λ s. slash ∷ s) ss) =
    subst (λ q. length (text q) ≤ length (flat_map (λ s. slash ∷ s) ss)) c.path.view_is read in
    most_of m (length (text c.args.path.now)) (length (flat_map (λ s. slash ∷ s) ss)) c.loop-segment.len shown
    (subst (λ l. (length (flat_map (λ s. slash ∷ s) l) ≤ c.loop-segment.len) ⊎ (c.loop-segment.len ≡ m))
    (take_all c.loop-segment.segment-index ss c.loop-segment-test.false) c.loop-segment.invariant)
