-- The text of a path's normal form at a place in a reference.
use Rattle.std.proofs.Common.{◌≡◌, ℕ, Bool, true, false, not, List, refl, sym, ap, ◌∙◌, ◌&&◌}
use Rattle.std.specs.List.{slice_split, join_with_byte}
use Rattle.uriparse_text.specs.Bytes.{slash}
use Rattle.uriparse_text.specs.Canonical.{canonical}
use Rattle.uriparse_path.specs.declared.path.normal.PathContext.{PathContext}
use Rattle.uriparse_path.specs.Path.{IsPath, text, is_rooted, is_slash, spelled, respelled}
use Rattle.uriparse_path.specs.Dots.{undot}
use Rattle.uriparse_path.specs.Edits.{with_dot_prefix_unless}
use Rattle.uriparse_path.specs.Relative.{relative_normal}
use Rattle.uriparse_path.specs.Normal.{stays_relative, normal_at}
use Rattle.uriparse_path.proofs.lemmas.text.PathTextLemmas.{text-spelled, spelled-text}
use Rattle.uriparse_path.proofs.lemmas.left.UndottedLemmas.{pieces_relative}
use Rattle.uriparse_path.proofs.lemmas.normal.NormalFormLemmas.{pnormal_relative, spelled_canonical_undot}
use Rattle.uriparse_path.proofs.lemmas.normal.ShieldLemmas.{relative_stays}
use Rattle.uriparse_path.proofs.lemmas.merge.MergedNormalFormLemmas.{pnormal_is}

stays : (context : PathContext) (t : List ℕ) → (v : Bool) → (not context.has_scheme && not (is_rooted t)) ≡ v → stays_relative (spelled t) (not context.has_scheme) ≡ v
stays context t v e = ap (λ u. not context.has_scheme && not (is_rooted u)) (text-spelled t) ∙ e

pub normal_stays : (context : PathContext) (t : List ℕ) → IsPath t → context.has_scheme ≡ false → is_rooted t ≡ false
    → text (normal_at context (spelled t)) ≡ join_with_byte slash (relative_normal (slice_split is_slash t))
normal_stays context t is h k =
    let rel = stays context t true (rw (h, k) refl) in
    ap text (relative_stays context.has_authority (spelled t) (not context.has_scheme) is rel)
    ∙ ap text (pnormal_relative (spelled t) (not context.has_scheme) rel)
    ∙ ap (λ l. join_with_byte slash (relative_normal l)) (pieces_relative t k)

pub normal_moves : (context : PathContext) (t : List ℕ) → IsPath t → (not context.has_scheme && not (is_rooted t)) ≡ false
    → text (normal_at context (spelled t)) ≡ text (with_dot_prefix_unless context.has_authority (spelled (canonical (undot t))))
normal_moves context t is h =
    let kept : respelled (spelled t) ≡ spelled t = sym (spelled-text (spelled t) is) ∙ ap spelled (text-spelled t) in
    ap (λ q. text (with_dot_prefix_unless context.has_authority q))
    (pnormal_is (spelled t) (not context.has_scheme) is kept (stays context t false h)
    ∙ sym (spelled_canonical_undot (spelled t) is)
    ∙ ap (λ u. spelled (canonical (undot u))) (text-spelled t))
