-- The fault of a path's length in its text: at the slash that would start one segment too many.
use Rattle.std.proofs.Common.{◌≡◌, ◌↔◌, ℕ, ◌<◌, Bool, true, false, cond, nat_lt, List, [], ◌∷◌, ◌++◌, length, take, drop, Option, Some, None, refl}
use Rattle.std.proofs.Common.{sym, ap, subst, ◌∙◌, append_assoc, arith, length-append, length-drop, inl, inr}
use Rattle.std.specs.Prelude.{◌==◌, ◌⊎◌}
use Rattle.std.specs.Option.{option_or, option_map}
use Rattle.std.specs.List.{list_all, slice_split, onto_first, join_with_byte}
use Rattle.std.proofs.Math.Seq.{take-append_seam}
use Rattle.std.proofs.lemmas.Bool.Decides.{nat_tests}
use Rattle.std.proofs.lemmas.List.{take-append-drop, length-take-le}
use Rattle.std.proofs.lemmas.List.Splits.{slice_split-cons_no}
use Rattle.uriparse_text.specs.declared.internal.class.Class.TheVariants.{Segment}
use Rattle.uriparse_text.specs.Bytes.{percent, slash}
use Rattle.uriparse_text.specs.Faults as text
use Rattle.uriparse_text.specs.declared.segment.error.PathError.{PathError}
use Rattle.uriparse_text.specs.declared.segment.error.PathError.TheVariants.{ExceededMaximumLength, InvalidCharacter, InvalidPercentEncoding, OutOfMemory}
use Rattle.uriparse_text.specs.Segment as segment
use Rattle.uriparse_path.specs.Path as path
use Rattle.uriparse_path.specs.Path.{max_segments, is_slash, is_rooted, root, pieces}
use Rattle.uriparse_path.specs.Faults.{PassesLimit, fault, fault_within, first_fault, length_fault}
use Rattle.uriparse_path.proofs.lemmas.text.SplitLemmas.{cut, pieces-byte, pieces-slash, some_pieces}
use Rattle.uriparse_path.proofs.lemmas.reading.FaultLemmas.{all_segments, no_segment_fault, within_none}
use Rattle.uriparse_path.proofs.lemmas.text.PathTextLemmas.{pieces-segments, spelled-relative, text-spelled}

-- ---- a slash separates the pieces before it from those after it

pub split-append : (s t : List ℕ) → slice_split is_slash (s ++ slash ∷ t) ≡ slice_split is_slash s ++ slice_split is_slash t
split-append [] t = refl
split-append (b ∷ s) t = by_test (is_slash b) refl (split-append s t)
  where
    by_test : (v : Bool) → is_slash b ≡ v → slice_split is_slash (s ++ slash ∷ t) ≡ slice_split is_slash s ++ slice_split is_slash t
        → slice_split is_slash ((b ∷ s) ++ slash ∷ t) ≡ slice_split is_slash (b ∷ s) ++ slice_split is_slash t
    by_test true e k =
        pieces-slash b (s ++ slash ∷ t) e ∙ ap (λ l. [] ∷ l) k ∙ ap (λ l. l ++ slice_split is_slash t) (sym (pieces-slash b s e))
    by_test false e k =
        let is = cut s in
        slice_split-cons_no is_slash b (s ++ slash ∷ t) e ∙ ap (onto_first b) (k ∙ ap (λ l. l ++ slice_split is_slash t) is.pieces)
        ∙ ap (λ l. l ++ slice_split is_slash t) (sym (pieces-byte b s e is))

pieces-following : (front following : List ℕ) → 1 < length (pieces front) → pieces (front ++ slash ∷ following) ≡ pieces front ++ slice_split is_slash following
pieces-following [] following h = absurd (omega arith)
pieces-following (b ∷ f) following h = by_test (is_slash b)
  where
    by_test : (v : Bool) → slice_split is_slash (cond v (f ++ slash ∷ following) (b ∷ (f ++ slash ∷ following)))
        ≡ slice_split is_slash (cond v f (b ∷ f)) ++ slice_split is_slash following
    by_test true = split-append f following
    by_test false = split-append (b ∷ f) following

-- ---- one segment more

beyond : (n : ℕ) (ps qs : List (List ℕ)) → length ps ≡ n → list_all segment.is_segment ps ≡ true → 0 < length qs
    → fault_within n (ps ++ qs) ≡ Some ExceededMaximumLength
beyond n ps qs full each some =
    let front : take n (ps ++ qs) ≡ ps = ap (λ k. take k (ps ++ qs)) (sym full) ∙ take-append_seam ps qs in
    let over : n < length (ps ++ qs) = omega (arith, length-append ps qs) in
    rw (front, no_segment_fault ps each) (ap (λ v. cond v (Some ExceededMaximumLength) None) (longer n (length (ps ++ qs)) over))
  where
    longer : (n m : ℕ) → n < m → nat_lt n m ≡ true
    longer n m h = grind (arith, nat_tests)

at_slash : (front following : List ℕ) → fault front ≡ None → length (pieces front) ≡ max_segments → fault (front ++ slash ∷ following) ≡ Some ExceededMaximumLength
unfolding fault max_segments
at_slash front following none full =
    ap (fault_within max_segments) (pieces-following front following (omega (arith, full)))
    ∙ beyond max_segments (pieces front) (slice_split is_slash following) full ((within_none max_segments (pieces front)).0 none).1 (some_pieces following)

-- ---- where it is

-- what a segment's fault is
abbrev IsOfSegment : PathError → Type 0
IsOfSegment e = (InvalidPercentEncoding ≡ e) ⊎ (InvalidCharacter ≡ e)

segment_told : (s : List ℕ) (e : PathError) → segment.fault s ≡ Some e → IsOfSegment e
segment_told s e h = by_fault (text.fault Segment s) h
  where
    by_test : (v : Bool) → Some (cond v InvalidPercentEncoding InvalidCharacter) ≡ Some e → IsOfSegment e
    by_test true k = inl cc
    by_test false k = inr cc

    by_fault : (o : Option ℕ) → option_map segment.error_of o ≡ Some e → IsOfSegment e
    by_fault None k = absurd (cc)
    by_fault (Some b) k = by_test (b == percent) k

first_told : (ps : List (List ℕ)) (e : PathError) → first_fault ps ≡ Some e → IsOfSegment e
first_told [] e h = absurd (cc)
first_told (s ∷ ss) e h = by_fault (segment.fault s) refl (first_told ss e) h
  where
    by_fault : (o : Option PathError) → segment.fault s ≡ o → (first_fault ss ≡ Some e → IsOfSegment e) → option_or o (first_fault ss) ≡ Some e
        → IsOfSegment e
    by_fault None f later k = later k
    by_fault (Some x) f later k = segment_told s e (f ∙ k)

not_long : IsOfSegment ExceededMaximumLength → ⊥
not_long (inl h) = cc
not_long (inr h) = cc

no_want : IsOfSegment OutOfMemory → ⊥
no_want (inl h) = cc
no_want (inr h) = cc

-- running out of memory is no fault of a text
pub never_memory : (t : List ℕ) → fault t ≡ Some OutOfMemory → ⊥
unfolding fault
never_memory t h = by_fault (first_fault (take max_segments (pieces t))) refl h
  where
    by_test : (v : Bool) → cond v (Some ExceededMaximumLength) None ≡ Some OutOfMemory → ⊥
    by_test true k = cc
    by_test false k = cc

    by_fault : (o : Option PathError) → first_fault (take max_segments (pieces t)) ≡ o
        → option_or o (length_fault max_segments (length (pieces t))) ≡ Some OutOfMemory → ⊥
    by_fault None e k = by_test (nat_lt max_segments (length (pieces t))) k
    by_fault (Some x) e k = no_want (first_told (take max_segments (pieces t)) OutOfMemory (e ∙ k))

-- the segments within the limit have no fault, and there is one more
long_after : (n : ℕ) (ps : List (List ℕ)) → fault_within n ps ≡ Some ExceededMaximumLength
    → (list_all segment.is_segment (take n ps) ≡ true) × (n < length ps)
long_after n ps h = by_fault (first_fault (take n ps)) refl h
  where
    by_test : (v : Bool) → nat_lt n (length ps) ≡ v → cond v (Some ExceededMaximumLength) None ≡ Some ExceededMaximumLength → n < length ps
    by_test true e k = grind (arith, nat_tests)
    by_test false e k = absurd (cc)

    by_fault : (o : Option PathError) → first_fault (take n ps) ≡ o → option_or o (length_fault n (length ps)) ≡ Some ExceededMaximumLength
        → (list_all segment.is_segment (take n ps) ≡ true) × (n < length ps)
    by_fault None e k = (all_segments (take n ps) e, by_test (nat_lt n (length ps)) refl k)
    by_fault (Some x) e k = absurd (not_long (first_told (take n ps) ExceededMaximumLength (e ∙ k)))

pub joined-append : (s : List ℕ) (ss : List (List ℕ)) (r : List ℕ) (rs : List (List ℕ))
    → join_with_byte slash ((s ∷ ss) ++ r ∷ rs) ≡ join_with_byte slash (s ∷ ss) ++ slash ∷ join_with_byte slash (r ∷ rs)
joined-append s [] r rs = refl
joined-append s (q ∷ ss) r rs =
    ap (λ t. s ++ slash ∷ t) (joined-append q ss r rs)
    ∙ sym (append_assoc s (slash ∷ join_with_byte slash (q ∷ ss)) (slash ∷ join_with_byte slash (r ∷ rs)))

-- the text of some segments, if more text after them has the same flag
pieces-front : (a : Bool) (s : List ℕ) (ss : List (List ℕ)) (following : List ℕ) → list_all segment.is_segment (s ∷ ss) ≡ true
    → is_rooted (path.text (record { absolute = a; segments = s ∷ ss }) ++ following) ≡ a
    → pieces (path.text (record { absolute = a; segments = s ∷ ss })) ≡ s ∷ ss
pieces-front true s ss following each e = pieces-segments s ss each
pieces-front false s ss following each e =
    let joined = join_with_byte slash (s ∷ ss) in
    ap (λ p. p.segments) (spelled-relative joined (not_rooted joined e)) ∙ pieces-segments s ss each
  where
    not_rooted : (t : List ℕ) → is_rooted (t ++ following) ≡ false → is_rooted t ≡ false
    not_rooted [] h = refl
    not_rooted (b ∷ t) h = h

cut_front : (n : ℕ) (t : List ℕ) (ps qs : List (List ℕ)) → n ≡ max_segments → pieces t ≡ ps ++ qs → length ps ≡ n → 0 < n → 0 < length qs
    → list_all segment.is_segment ps ≡ true → PassesLimit t
unfolding fault
cut_front n t [] qs is e full low some each = absurd (omega (arith, full))
cut_front n t (s ∷ ss) [] is e full low some each = absurd (omega arith)
cut_front n t (s ∷ ss) (r ∷ rs) is e full low some each =
    let a = is_rooted t in
    let front = path.text (record { absolute = a; segments = s ∷ ss }) in
    let following = join_with_byte slash (r ∷ rs) in
    let whole : t ≡ front ++ slash ∷ following =
    sym (text-spelled t) ∙ ap (λ l. root a ++ join_with_byte slash l) e ∙ ap (λ u. root a ++ u) (joined-append s ss r rs)
    ∙ sym (append_assoc (root a) (join_with_byte slash (s ∷ ss)) (slash ∷ following)) in
    let pieced : pieces front ≡ s ∷ ss = pieces-front a s ss (slash ∷ following) each (sym (ap is_rooted whole)) in
    record {
      front = front;
      following = following;
      whole = whole;
      none = (within_none max_segments (pieces front)).1 (omega (arith, ap length pieced, full, is), ap (list_all segment.is_segment) pieced ∙ each);
      full = ap length pieced ∙ full ∙ is;
    }

pub limit_passed : (t : List ℕ) → (fault t ≡ Some ExceededMaximumLength) ↔ PassesLimit t
unfolding fault max_segments
limit_passed t = (
  λ h. let is = long_after max_segments (pieces t) h in
      cut_front max_segments t (take max_segments (pieces t)) (drop max_segments (pieces t)) refl (sym (take-append-drop max_segments (pieces t)))
      (length-take-le max_segments (pieces t) (omega (arith, is.1))) (omega arith) (omega (arith, is.1, length-drop max_segments (pieces t))) is.0,
  λ p. subst (λ u. fault u ≡ Some ExceededMaximumLength) (sym p.whole) (at_slash p.front p.following p.none p.full),
)
