-- Segments that are kept as one text, put together from the end of a path.
use Rattle.std.proofs.Common.{◌≡◌, ℕ, suc, ◌<◌, Bool, true, false, cond, ◌||◌, List, [], ◌∷◌, ◌++◌, length, map, flat_map, refl, sym, ap, ◌∙◌, subst, arith, append_assoc}
use Rattle.std.specs.List.{join_with_byte, list_all, slice_split}
use Rattle.std.proofs.lemmas.Bool.{and_parts, or_parts, false≢true}
use Rattle.uriparse_text.specs.declared.internal.token.Case.TheVariants.{Kept}
use Rattle.uriparse_text.specs.declared.internal.class.Class.TheVariants.{Segment}
use Rattle.uriparse_text.specs.declared.internal.backward_buffer.Form.{Form}
use Rattle.uriparse_text.specs.declared.internal.backward_buffer.Form.TheVariants.{AsIs, Canonical}
use Rattle.uriparse_text.specs.Bytes.{slash}
use Rattle.uriparse_text.specs.Canonical.{canonical}
use Rattle.uriparse_text.specs.Ends.{formed}
use Rattle.uriparse_text.specs.Segment.{is_segment}
use Rattle.uriparse_text.proofs.lemmas.canonical.CanonicalLemmas.{canonical_in-append}
use Rattle.uriparse_text.proofs.lemmas.classes.ClassLemmas.{well_formed-in_class}
use Rattle.uriparse_path.specs.declared.path.text.backward.BackwardState.{BackwardState}
use Rattle.uriparse_path.specs.Path.{is_slash, root}
use Rattle.uriparse_path.specs.Dots.{has_dot_segment, is_dot_segment, is_double_dot, is_single_dot}
use Rattle.uriparse_path.specs.Remaining.{Remaining, process_one, process_all, is_more, remaining_text, process_plain, IsBackwardState, IsPlaced}
use Rattle.uriparse_path.specs.Relative.{has_colon, is_first}
use Rattle.uriparse_path.proofs.lemmas.text.CanonicalTextLemmas.{canonical-following}
use Rattle.uriparse_path.proofs.lemmas.text.SplitLemmas.{joined-following, joined-pieces, some_pieces}
use Rattle.uriparse_path.proofs.lemmas.left.BackwardLemmas.{kept_more}
use Rattle.uriparse_path.proofs.lemmas.left.UndottedLemmas.{map_as_is, map_canonical}

-- kept segments more, none of which is a dot segment
pub kept_more_all : (form : Form) (ended : Bool) (s : List ℕ) (ss kept : List (List ℕ)) → remaining_text form ended ((s ∷ ss) ++ kept)
    ≡ join_with_byte slash (map (formed form Kept) (s ∷ ss)) ++ (root (is_more kept || ended) ++ remaining_text form ended kept)
kept_more_all form ended s [] kept = kept_more form ended s kept
kept_more_all form ended s (r ∷ ss) kept =
    kept_more form ended s ((r ∷ ss) ++ kept)
    ∙ ap (λ u. formed form Kept s ++ (slash ∷ u)) (kept_more_all form ended r ss kept)
    ∙ sym (append_assoc (formed form Kept s) (slash ∷ join_with_byte slash (map (formed form Kept) (r ∷ ss))) (root (is_more kept || ended) ++ remaining_text form ended kept))

-- the text of segments, in this form
formed_joined : (form : Form) (s : List ℕ) (ss : List (List ℕ)) → list_all is_segment (s ∷ ss) ≡ true
    → join_with_byte slash (map (formed form Kept) (s ∷ ss)) ≡ formed form Kept (join_with_byte slash (s ∷ ss))
formed_joined AsIs s ss h = ap (join_with_byte slash) (map_as_is (s ∷ ss))
formed_joined Canonical s ss h =
    let each = and_parts _ _ h in
    ap (join_with_byte slash) (map_canonical (s ∷ ss))
    ∙ joined-following (canonical s) (map canonical ss)
    ∙ sym (ap canonical (joined-following s ss)
    ∙ canonical_in-append Kept s (flat_map (λ r. slash ∷ r) ss) (well_formed-in_class Segment s each.0)
    ∙ ap (λ u. canonical s ++ u) (canonical-following ss each.1))

-- a text of which all is kept, before what is left
pub kept_before : (form : Form) (ended : Bool) (text : List ℕ) (kept : List (List ℕ)) → list_all is_segment (slice_split is_slash text) ≡ true
    → remaining_text form ended (slice_split is_slash text ++ kept) ≡ formed form Kept text ++ (root (is_more kept || ended) ++ remaining_text form ended kept)
kept_before form ended text kept h = by_pieces (slice_split is_slash text) refl h (some_pieces text)
  where
    by_pieces : (ss : List (List ℕ)) → slice_split is_slash text ≡ ss → list_all is_segment ss ≡ true → 0 < length ss
        → remaining_text form ended (ss ++ kept) ≡ formed form Kept text ++ (root (is_more kept || ended) ++ remaining_text form ended kept)
    by_pieces [] e each some = absurd (omega (arith, some))
    by_pieces (s ∷ ss) e each some =
        kept_more_all form ended s ss kept
        ∙ ap (λ u. u ++ (root (is_more kept || ended) ++ remaining_text form ended kept))
        (formed_joined form s ss each ∙ ap (λ l. formed form Kept (join_with_byte slash l)) (sym e) ∙ ap (formed form Kept) (joined-pieces text))

-- a segment that is no dot segment
back_reached : (s : List ℕ) (l : Remaining) → is_dot_segment s ≡ false → process_one s l ≡ process_plain s l.double_dots l
back_reached s l h = by_test (is_single_dot s) (is_double_dot s) h
  where
    by_test : (v w : Bool) → (v || w) ≡ false
        → cond v l (cond w (record { double_dots = suc l.double_dots; kept = l.kept; removed = l.removed }) (process_plain s l.double_dots l)) ≡ process_plain s l.double_dots l
    by_test true w e = absurd (false≢true (sym e))
    by_test false true e = absurd (false≢true (sym e))
    by_test false false e = refl

-- where no ".." waits
back_kept : (s : List ℕ) (l : Remaining) → l.double_dots ≡ 0 → is_dot_segment s ≡ false → process_one s l ≡ record { double_dots = 0; kept = s ∷ l.kept; removed = false }
back_kept s l none h = back_reached s l h ∙ ap (λ n. process_plain s n l) none

-- segments of which none is a dot segment
pub backs_kept : (s : List ℕ) (ss : List (List ℕ)) (l : Remaining) → l.double_dots ≡ 0 → has_dot_segment (s ∷ ss) ≡ false
    → process_all (s ∷ ss) l ≡ record { double_dots = 0; kept = (s ∷ ss) ++ l.kept; removed = false }
backs_kept s [] l none h = back_kept s l none (or_parts _ _ h).0
backs_kept s (r ∷ ss) l none h =
    let parts = or_parts _ _ h in
    ap (process_one s) (backs_kept r ss l none parts.1) ∙ back_kept s (record { double_dots = 0; kept = (r ∷ ss) ++ l.kept; removed = false }) refl parts.0

-- what is left once all of a text is kept
pub kept_all : (form : Form) (ended : Bool) (text : List ℕ) (l : Remaining) (e : BackwardState) (buffer t : List ℕ) → l.double_dots ≡ 0
    → list_all is_segment (slice_split is_slash text) ≡ true → has_dot_segment (slice_split is_slash text) ≡ false
    → e.double_dots ≡ 0 → e.removed ≡ false → e.kept ≡ true → e.colon ≡ is_first has_colon (slice_split is_slash text)
    → IsPlaced e.text buffer (formed form Kept text ++ (root (is_more l.kept || ended) ++ remaining_text form ended l.kept)) t
    → IsBackwardState form ended (process_all (slice_split is_slash text) l) e buffer t
kept_all form ended text l e buffer t none each dots double_dots removed kept colon placed =
    by_pieces (slice_split is_slash text) dots (some_pieces text) colon (kept_before form ended text l.kept each)
  where
    by_pieces : (ss : List (List ℕ)) → has_dot_segment ss ≡ false → 0 < length ss → e.colon ≡ is_first has_colon ss
        → remaining_text form ended (ss ++ l.kept) ≡ formed form Kept text ++ (root (is_more l.kept || ended) ++ remaining_text form ended l.kept)
        → IsBackwardState form ended (process_all ss l) e buffer t
    by_pieces [] undotted some first same = absurd (omega (arith, some))
    by_pieces (s ∷ ss) undotted some first same =
        subst (λ k. IsBackwardState form ended k e buffer t) (sym (backs_kept s ss l none undotted)) (record {
          double_dots = double_dots;
          removed = removed;
          kept = kept;
          colon = first;
          placed = subst (λ u. IsPlaced e.text buffer u t) (sym same) placed;
        })
