-- What the text of a path begins with, by its flag and its segments.
use Rattle.std.proofs.Common.{◌≡◌, ℕ, Bool, true, false, not, ◌&&◌, ◌||◌, List, [], ◌∷◌, ◌++◌, drop, flat_map, refl, sym, ap, ◌∙◌, append-nil, arith}
use Rattle.std.specs.List.{join_with_byte}
use Rattle.std.proofs.lemmas.Bool.{and_parts}
use Rattle.uriparse_text.specs.Bytes.{slash, colon}
use Rattle.uriparse_text.specs.Cuts.{lacks, up_to}
use Rattle.uriparse_text.proofs.lemmas.readings.CutLemmas.{up_to-append}
use Rattle.uriparse_path.specs.Path.{PathParts, IsListed, text, is_slash, is_rooted, starts_with_empty_segment, has_two_slashes}
use Rattle.uriparse_path.specs.Relative.{is_first, has_colon}
use Rattle.uriparse_path.proofs.lemmas.text.SplitLemmas.{joined-following}
use Rattle.uriparse_path.proofs.lemmas.text.PathTextLemmas.{lacks_slash}
use Rattle.uriparse_path.proofs.lemmas.dots.DotSegmentLemmas.{has-lacks}
use Rattle.uriparse_path.proofs.lemmas.normal.NormalFormLemmas.{rooted-text}

abbrev make : Bool → List (List ℕ) → PathParts
make a ss = record { absolute = a; segments = ss }

followers : (r : List ℕ) (ss : List (List ℕ)) → IsListed ([] ∷ r ∷ ss) → IsListed (r ∷ ss)
followers r ss is = record { some = omega arith; short = let short = is.short in omega arith; each = (and_parts _ _ is.each).1 }

and_true : (v : Bool) → (v && true) ≡ v
and_true true = refl
and_true false = refl

pub two_slashes-text : (p : PathParts) → IsListed p.segments
    → (starts_with_empty_segment p.segments && (p.absolute || starts_with_empty_segment (drop 1 p.segments))) ≡ has_two_slashes (text p)
two_slashes-text p is = by_shape p.absolute p.segments is
  where
    by_shape : (a : Bool) (ss : List (List ℕ)) → IsListed ss
        → (starts_with_empty_segment ss && (a || starts_with_empty_segment (drop 1 ss))) ≡ has_two_slashes (text (record { absolute = a; segments = ss }))
    by_shape true ss is = and_true (starts_with_empty_segment ss) ∙ sym (rooted-text (make false ss) is)
    by_shape false [] is = refl
    by_shape false ([] ∷ []) is = refl
    by_shape false ([] ∷ r ∷ ss) is = sym (rooted-text (make false (r ∷ ss)) (followers r ss is))
    by_shape false ((b ∷ s) ∷ ss) is = rw (rooted-text (make false ((b ∷ s) ∷ ss)) is) refl

none_following : (ss : List (List ℕ)) → up_to is_slash (flat_map (λ s. slash ∷ s) ss) ≡ []
none_following [] = refl
none_following (s ∷ ss) = refl

not_not : (v : Bool) → not (not v) ≡ v
not_not true = refl
not_not false = refl

pub colon-text : (p : PathParts) → IsListed p.segments → (is_rooted (text p) || not (is_first has_colon p.segments)) ≡ lacks colon (up_to is_slash (text p))
colon-text p is = by_shape p.absolute p.segments is
  where
    by_shape : (a : Bool) (ss : List (List ℕ)) → IsListed ss
        → (is_rooted (text (record { absolute = a; segments = ss })) || not (is_first has_colon ss))
        ≡ lacks colon (up_to is_slash (text (record { absolute = a; segments = ss })))
    by_shape true ss is = refl
    by_shape false [] is = refl
    by_shape false ([] ∷ []) is = refl
    by_shape false ([] ∷ r ∷ ss) is = refl
    by_shape false ((b ∷ s) ∷ ss) is =
        let first : up_to is_slash (join_with_byte slash ((b ∷ s) ∷ ss)) ≡ b ∷ s =
        ap (up_to is_slash) (joined-following (b ∷ s) ss)
        ∙ up_to-append is_slash (b ∷ s) (flat_map (λ s. slash ∷ s) ss) (lacks_slash (b ∷ s) (and_parts _ _ is.each).0)
        ∙ ap (λ u. (b ∷ s) ++ u) (none_following ss)
        ∙ append-nil (b ∷ s) in
        ap (λ v. v || not (has_colon (b ∷ s))) (rooted-text (make false ((b ∷ s) ∷ ss)) is)
        ∙ ap not (has-lacks colon (b ∷ s))
        ∙ not_not (lacks colon (b ∷ s))
        ∙ sym (ap (lacks colon) first)
