-- The text without dot segments is that of what is left of its segments.
use Rattle.std.proofs.Common.{◌≡◌, ℕ, ◌≤◌, Bool, true, false, not, cond, List, [], ◌∷◌, ◌++◌, length, map, refl, sym, ap, ◌∙◌, subst, ◌&&◌, ◌||◌}
use Rattle.std.specs.List.{slice_split, join_with_byte}
use Rattle.std.proofs.lemmas.Bool.{and_parts}
use Rattle.uriparse_text.specs.declared.internal.token.Case.TheVariants.{Kept}
use Rattle.uriparse_text.specs.declared.internal.backward_buffer.Form.{Form}
use Rattle.uriparse_text.specs.declared.internal.backward_buffer.Form.TheVariants.{AsIs, Canonical}
use Rattle.uriparse_text.specs.Bytes.{dot, slash}
use Rattle.uriparse_text.specs.Canonical.{canonical}
use Rattle.uriparse_text.specs.Ends.{EndsWith, formed}
use Rattle.uriparse_path.specs.Path.{PathParts, IsListed, IsPath, root, text, is_rooted, unrooted, has_two_slashes, is_slash, max_segments, pieces, spelled}
use Rattle.uriparse_path.specs.Dots.{has_dot_segment, is_dot_segment, all_but_last, rooted_after, replayed, undot}
use Rattle.uriparse_path.specs.Edits.{dotted, with_dot_prefix_unless}
use Rattle.uriparse_path.specs.Relative.{is_last}
use Rattle.uriparse_path.specs.Merge.{merged}
use Rattle.uriparse_path.specs.Remaining.{nothing, process_all, remaining_of, remaining_text}
use Rattle.uriparse_path.proofs.lemmas.text.PathTextLemmas.{text-spelled, root-unrooted, spelled-relative}
use Rattle.uriparse_path.proofs.lemmas.text.SplitLemmas.{joined-pieces, cut}
use Rattle.uriparse_path.proofs.lemmas.text.CanonicalTextLemmas.{canonical-text, has_two_slashes-canonical}
use Rattle.uriparse_path.proofs.lemmas.normal.NormalFormLemmas.{listed_replayed, undot_kept}
use Rattle.uriparse_path.proofs.lemmas.left.RemainingLemmas.{replay_left, rooted_left, last_after}
use Rattle.uriparse_path.proofs.lemmas.left.BackwardLemmas.{process_all-append}
use Rattle.uriparse_path.proofs.lemmas.merge.MergedPathLemmas.{listed_merged}

-- the pieces of a text that begins with no slash
pub pieces_relative : (t : List ℕ) → is_rooted t ≡ false → pieces t ≡ slice_split is_slash t
pieces_relative t h = ap (λ p. p.segments) (spelled-relative t h)

pub map_canonical : (ss : List (List ℕ)) → map (formed Canonical Kept) ss ≡ map canonical ss
map_canonical [] = refl
map_canonical (s ∷ ss) = ap (λ u. canonical s ∷ u) (map_canonical ss)

pub map_as_is : (ss : List (List ℕ)) → map (formed AsIs Kept) ss ≡ ss
map_as_is [] = refl
map_as_is (s ∷ ss) = ap (λ u. s ∷ u) (map_as_is ss)

-- the text of segments, in this form
formed_text : (form : Form) (p : PathParts) → IsListed p.segments
    → root p.absolute ++ join_with_byte slash (map (formed form Kept) p.segments) ≡ formed form Kept (text p)
formed_text AsIs p is = ap (λ ss. root p.absolute ++ join_with_byte slash ss) (map_as_is p.segments)
formed_text Canonical p is = ap (λ ss. root p.absolute ++ join_with_byte slash ss) (map_canonical p.segments) ∙ sym (canonical-text p is)

pub left_text : (form : Form) (a : Bool) (ss : List (List ℕ)) → IsListed ss
    → root (a || (remaining_of ss).removed) ++ remaining_text form (is_last is_dot_segment ss) (remaining_of ss).kept
    ≡ formed form Kept (text (replayed (record { absolute = a; segments = ss })))
left_text form a ss is =
    ap (λ v. root v ++ remaining_text form (is_last is_dot_segment ss) (remaining_of ss).kept) (sym (rooted_left a ss))
    ∙ ap (λ l. root (rooted_after a [] ss) ++ join_with_byte slash (map (formed form Kept) l)) (sym (replay_left ss is.some))
    ∙ formed_text form (replayed (record { absolute = a; segments = ss })) (listed_replayed (record { absolute = a; segments = ss }) is)

pub undotted_text : (form : Form) (t : List ℕ) → IsPath t
    → root (is_rooted t || (remaining_of (pieces t)).removed) ++ remaining_text form (is_last is_dot_segment (pieces t)) (remaining_of (pieces t)).kept
    ≡ formed form Kept (undot t)
unfolding undot
undotted_text form t is = left_text form (is_rooted t) (pieces t) is

-- ---- a leading "/."

pub dotted_text : (t : List ℕ) → has_two_slashes t ≡ true → text (dotted (spelled t)) ≡ slash ∷ dot ∷ t
dotted_text t h =
    let both = and_parts (is_rooted t) (is_rooted (unrooted t)) h in
    let is = cut (unrooted t) in
    ap (λ v. root v ++ join_with_byte slash ((dot ∷ []) ∷ pieces t)) both.0
    ∙ ap (λ l. slash ∷ join_with_byte slash ((dot ∷ []) ∷ l)) is.pieces
    ∙ ap (λ l. slash ∷ dot ∷ slash ∷ join_with_byte slash l) (sym is.pieces)
    ∙ ap (λ u. slash ∷ dot ∷ slash ∷ u) (joined-pieces (unrooted t))
    ∙ ap (λ u. slash ∷ dot ∷ u) (ap (λ v. root v ++ unrooted t) (sym both.0) ∙ root-unrooted t)

pub shielded_text : (v : Bool) (t : List ℕ)
    → text (with_dot_prefix_unless v (spelled t)) ≡ cond (not v && has_two_slashes t) (slash ∷ dot ∷ t) t
shielded_text true t = text-spelled t
shielded_text false t = by_test (has_two_slashes t) refl
  where
    by_test : (w : Bool) → has_two_slashes t ≡ w → text (cond (has_two_slashes (text (spelled t))) (dotted (spelled t)) (spelled t)) ≡ cond w (slash ∷ dot ∷ t) t
    by_test true e = ap (λ u. text (cond (has_two_slashes u) (dotted (spelled t)) (spelled t))) (text-spelled t)
        ∙ ap (λ w. text (cond w (dotted (spelled t)) (spelled t))) e ∙ dotted_text t e
    by_test false e = ap (λ u. text (cond (has_two_slashes u) (dotted (spelled t)) (spelled t))) (text-spelled t)
        ∙ ap (λ w. text (cond w (dotted (spelled t)) (spelled t))) e ∙ text-spelled t

pub front_dotted : (v : Bool) (x t new : List ℕ) (len : ℕ) → (not v && has_two_slashes x) ≡ true → EndsWith new len (slash ∷ dot ∷ (x ++ t))
    → EndsWith new len (text (with_dot_prefix_unless v (spelled x)) ++ t)
front_dotted v x t new len h ends =
    subst (λ u. EndsWith new len (u ++ t)) (sym (shielded_text v x ∙ ap (λ w. cond w (slash ∷ dot ∷ x) x) h)) ends

pub front_plain : (v : Bool) (x t new : List ℕ) (len : ℕ) → (not v && has_two_slashes x) ≡ false → EndsWith new len (x ++ t)
    → EndsWith new len (text (with_dot_prefix_unless v (spelled x)) ++ t)
front_plain v x t new len h ends =
    subst (λ u. EndsWith new len (u ++ t)) (sym (shielded_text v x ∙ ap (λ w. cond w (slash ∷ dot ∷ x) x) h)) ends

two_slashes-formed : (form : Form) (t : List ℕ) → has_two_slashes (formed form Kept t) ≡ has_two_slashes t
two_slashes-formed AsIs t = refl
two_slashes-formed Canonical t = has_two_slashes-canonical t

-- a path without dot segments that needs no "." is put whole
pub kept_whole : (form : Form) (v : Bool) (u t new : List ℕ) (len : ℕ) → IsPath u → (not v && has_two_slashes u) ≡ false
    → has_dot_segment (pieces u) ≡ false → EndsWith new len (formed form Kept u ++ t)
    → EndsWith new len (text (with_dot_prefix_unless v (spelled (formed form Kept (undot u)))) ++ t)
kept_whole form v u t new len is h k ends =
    let same : undot u ≡ u = ap undot (sym (text-spelled u)) ∙ undot_kept (spelled u) is k ∙ text-spelled u in
    subst (λ x. EndsWith new len (text (with_dot_prefix_unless v (spelled (formed form Kept x))) ++ t)) (sym same)
    (front_plain v (formed form Kept u) t new len (ap (λ w. not v && w) (two_slashes-formed form u) ∙ h) ends)

-- ---- merged paths

-- segments that are walked in two parts
pub merged_left : (base reference : List ℕ) → is_rooted reference ≡ false
    → process_all (all_but_last (pieces base)) (remaining_of (slice_split is_slash reference)) ≡ remaining_of (merged (spelled base) (spelled reference)).segments
merged_left base reference h =
    sym (process_all-append (all_but_last (pieces base)) (slice_split is_slash reference) nothing)
    ∙ ap (λ l. remaining_of (all_but_last (pieces base) ++ l)) (sym (pieces_relative reference h))

merged_last : (base reference : List ℕ) → is_rooted reference ≡ false
    → is_last is_dot_segment (slice_split is_slash reference) ≡ is_last is_dot_segment (merged (spelled base) (spelled reference)).segments
merged_last base reference h =
    let is = cut reference in
    ap (is_last is_dot_segment) is.pieces
    ∙ sym (ap (λ l. is_last is_dot_segment (all_but_last (pieces base) ++ l)) (pieces_relative reference h ∙ is.pieces)
    ∙ last_after is_dot_segment (all_but_last (pieces base)) is.first is.others)

pub merged_text : (base reference : List ℕ) → is_rooted reference ≡ false → IsPath base → IsPath reference
    → length (merged (spelled base) (spelled reference)).segments ≤ max_segments
    → root (is_rooted base || (remaining_of (merged (spelled base) (spelled reference)).segments).removed)
    ++ remaining_text AsIs (is_last is_dot_segment (slice_split is_slash reference)) (remaining_of (merged (spelled base) (spelled reference)).segments).kept
    ≡ text (replayed (merged (spelled base) (spelled reference)))
merged_text base reference h is js short =
    let m = merged (spelled base) (spelled reference) in
    ap (λ v. root (is_rooted base || (remaining_of m.segments).removed) ++ remaining_text AsIs v (remaining_of m.segments).kept) (merged_last base reference h)
    ∙ left_text AsIs (is_rooted base) m.segments (listed_merged (spelled base) (spelled reference) is js short)
