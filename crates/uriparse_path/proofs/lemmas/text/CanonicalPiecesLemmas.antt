-- A path's text is canonical exactly if each of its segments is.
use Rattle.std.proofs.Common.{◌≡◌, ℕ, Bool, true, List, [], ◌∷◌, ◌++◌, ◌<◌, ◌↔◌, length, map, flat_map, refl, sym, ap, ◌∙◌, arith}
use Rattle.std.specs.List.{join_with_byte, list_all, slice_split}
use Rattle.std.proofs.lemmas.Bool.{and_parts}
use Rattle.std.proofs.lemmas.Bool.Decides.{same_from_decides}
use Rattle.uriparse_text.specs.declared.internal.class.Class.TheVariants.{Segment}
use Rattle.uriparse_text.specs.declared.internal.token.Case.TheVariants.{Kept}
use Rattle.uriparse_text.specs.Bytes.{slash}
use Rattle.uriparse_text.specs.Canonical.{canonical}
use Rattle.uriparse_text.specs.Segment.{is_segment}
use Rattle.uriparse_text.proofs.lemmas.canonical.CanonicalLemmas.{canonical_in-append}
use Rattle.uriparse_text.proofs.lemmas.classes.ClassLemmas.{well_formed-in_class}
use Rattle.uriparse_path.specs.Path.{is_slash}
use Rattle.uriparse_path.specs.Normal.{is_canonical}
use Rattle.uriparse_path.proofs.lemmas.normal.RelativeFormLemmas.{all_canonical_same}
use Rattle.uriparse_path.proofs.lemmas.text.CanonicalTextLemmas.{canonical-following, each-canonical, each_is_canonical}
use Rattle.uriparse_path.proofs.lemmas.text.PathTextLemmas.{pieces-segments}
use Rattle.uriparse_path.proofs.lemmas.text.SplitLemmas.{joined-following, joined-pieces, some_pieces}

canonical-joined : (s : List ℕ) (ss : List (List ℕ)) → list_all is_segment (s ∷ ss) ≡ true
    → canonical (join_with_byte slash (s ∷ ss)) ≡ join_with_byte slash (map canonical (s ∷ ss))
canonical-joined s ss h =
    let each = and_parts _ _ h in
    ap canonical (joined-following s ss)
    ∙ canonical_in-append Kept s (flat_map (λ r. slash ∷ r) ss) (well_formed-in_class Segment s each.0)
    ∙ ap (λ u. canonical s ++ u) (canonical-following ss each.1)
    ∙ sym (joined-following (canonical s) (map canonical ss))

-- a text and its segments
unrooted_pieces : (u : List ℕ) (ss : List (List ℕ)) → slice_split is_slash u ≡ ss → list_all is_segment ss ≡ true → 0 < length ss
    → ((canonical u ≡ u) → map canonical ss ≡ ss) × ((map canonical ss ≡ ss) → canonical u ≡ u)
unrooted_pieces u [] e h some = absurd (omega (arith, some))
unrooted_pieces u (s ∷ ss) e h some =
    let joined : join_with_byte slash (s ∷ ss) ≡ u = ap (join_with_byte slash) (sym e) ∙ joined-pieces u in
    let spelled : canonical u ≡ join_with_byte slash (map canonical (s ∷ ss)) = ap canonical (sym joined) ∙ canonical-joined s ss h in (
      λ same. sym (pieces-segments (canonical s) (map canonical ss) (each-canonical (s ∷ ss) h)) ∙ ap (slice_split is_slash) (sym spelled ∙ same) ∙ e,
      λ each. spelled ∙ ap (join_with_byte slash) each ∙ joined,
    )

pub canonical_split : (u : List ℕ) (r : Bool) → list_all is_segment (slice_split is_slash u) ≡ true → ((r ≡ true) ↔ (canonical u ≡ u))
    → r ≡ list_all is_canonical (slice_split is_slash u)
canonical_split u r each iff =
    let both = unrooted_pieces u (slice_split is_slash u) refl each (some_pieces u) in
    sym (same_from_decides (list_all is_canonical (slice_split is_slash u)) r (
      λ all. both.1 (all_canonical_same (slice_split is_slash u) all),
      λ same. each_is_canonical (slice_split is_slash u) (both.0 same),
    ) (iff.0, iff.1))
