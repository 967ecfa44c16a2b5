-- What a path feeds a hasher: its first piece, then the segments after it.
use Rattle.std.proofs.Common.{◌≡◌, ℕ, true, List, [], ◌∷◌, ◌++◌, map, fold, flat_map, refl, sym, ap, ◌∙◌}
use Rattle.std.specs.List.{list_all, slice_split}
use Rattle.std.proofs.lemmas.Bool.{and_from}
use Rattle.std.proofs.lemmas.Grind.{fold-append}
use Rattle.uriparse_text.specs.declared.internal.class.Class.TheVariants.{Segment}
use Rattle.uriparse_text.specs.declared.internal.token.Case.TheVariants.{Kept}
use Rattle.uriparse_text.specs.Bytes.{slash}
use Rattle.uriparse_text.specs.Canonical.{canonical}
use Rattle.uriparse_text.proofs.lemmas.canonical.CanonicalLemmas.{canonical_in-append}
use Rattle.uriparse_text.proofs.lemmas.classes.ClassLemmas.{well_formed-in_class, IsIn-canonical_in}
use Rattle.uriparse_text.specs.Segment.{is_segment}
use Rattle.uriparse_path.specs.Path.{is_slash, fed, fed_piece}
use Rattle.uriparse_path.proofs.lemmas.text.CanonicalTextLemmas.{canonical-following, each-canonical}
use Rattle.uriparse_path.proofs.lemmas.text.SplitLemmas.{joined-following}
use Rattle.uriparse_path.proofs.lemmas.text.PathTextLemmas.{pieces-segments}

-- the pieces of a path's text in canonical spelling, by what precedes its first slash and the segments after it
canonical-pieces : (t front : List ℕ) (ss : List (List ℕ)) → t ≡ front ++ flat_map (λ s. slash ∷ s) ss → is_segment front ≡ true → list_all is_segment ss ≡ true
    → slice_split is_slash (canonical t) ≡ canonical front ∷ map canonical ss
canonical-pieces t front ss e h k =
    ap (λ u. slice_split is_slash (canonical u)) e
    ∙ ap (slice_split is_slash) (canonical_in-append Kept front (flat_map (λ s. slash ∷ s) ss) (well_formed-in_class Segment front h)
    ∙ ap (λ u. canonical front ++ u) (canonical-following ss k)
    ∙ sym (joined-following (canonical front) (map canonical ss)))
    ∙ pieces-segments (canonical front) (map canonical ss) (and_from _ _ (IsIn-canonical_in Segment Kept front h) (each-canonical ss k))

each_fed : (ss : List (List ℕ)) → flat_map fed_piece (map canonical ss) ≡ flat_map (λ s. fed_piece (canonical s)) ss
each_fed [] = refl
each_fed (s ∷ ss) = ap (λ u. fed_piece (canonical s) ++ u) (each_fed ss)

-- the first piece is fed, then the segments after it, then the end
pub feeds_path : {S : Type 0} (write : S → List ℕ → S) (s : S) (t front : List ℕ) (following : List (List ℕ)) → t ≡ front ++ flat_map (λ s. slash ∷ s) following
    → is_segment front ≡ true → list_all is_segment following ≡ true
    → fold write s (fed (canonical t))
    ≡ write (fold write (fold write s (fed_piece (canonical front))) (flat_map (λ s. fed_piece (canonical s)) following)) (255 ∷ [])
unfolding fed
feeds_path write s t front following e h k =
    let first = fed_piece (canonical front) in
    let later = flat_map (λ s. fed_piece (canonical s)) following in
    ap (λ ps. fold write s (flat_map fed_piece ps ++ (255 ∷ []) ∷ [])) (canonical-pieces t front following e h k)
    ∙ ap (λ u. fold write s ((first ++ u) ++ (255 ∷ []) ∷ [])) (each_fed following)
    ∙ fold-append write s (first ++ later) ((255 ∷ []) ∷ [])
    ∙ ap (λ r. write r (255 ∷ [])) (fold-append write s first later)
