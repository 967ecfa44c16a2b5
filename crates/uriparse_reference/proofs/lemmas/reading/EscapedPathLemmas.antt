-- Paths with escapes for the bytes that may not stand in them.
use Rattle.std.proofs.Common.{◌≡◌, ℕ, zero, suc, Bool, true, false, not, cond, ◌&&◌, ◌||◌, List, [], ◌∷◌, length, take, map, refl, sym, ap, ◌∙◌, arith}
use Rattle.std.specs.Prelude.{◌==◌, codes}
use Rattle.std.specs.List.{list_all, slice_split, onto_first, join_with_byte}
use Rattle.std.proofs.lemmas.Bool.{and_from, and_parts, eqb-true, not-true}
use Rattle.std.proofs.lemmas.Bool.Decides.{nat_tests}
use Rattle.std.proofs.lemmas.List.Splits.{slice_split-cons_yes, slice_split-cons_no}
use Rattle.uriparse_text.specs.declared.internal.class.Class.TheVariants.{Segment, Query}
use Rattle.uriparse_text.specs.Bytes.{percent, slash, colon, question_mark, at_sign, is_hex, is_among, is_unreserved, is_sub_delim}
use Rattle.uriparse_text.specs.Classes.{is_plain}
use Rattle.uriparse_text.specs.Tokens.{is_escape}
use Rattle.uriparse_text.specs.Cuts.{lacks, none_pass}
use Rattle.uriparse_text.specs.Coding.{may_stand}
use Rattle.uriparse_text.proofs.lemmas.tokens.EscapingLemmas as escaping
use Rattle.uriparse_text.specs.Segment as segment
use Rattle.uriparse_path.specs.Path.{is_slash, is_rooted, unrooted, pieces, has_two_slashes, IsPath, max_segments}
use Rattle.uriparse_path.specs.Faults as paths
use Rattle.uriparse_path.specs.Faults.{length_fault}
use Rattle.uriparse_path.proofs.lemmas.text.SplitLemmas.{joined-pieces}
use Rattle.uriparse_path.proofs.lemmas.reading.FaultLemmas.{no_segment_fault}
use Rattle.uriparse_reference.specs.Reference.{is_abempty, is_noscheme, path_refusal}
use Rattle.uriparse_reference.specs.Escaped.{escaped_path, escaped_component}

-- ---- the bytes of a path

same_tests : (x l r q : Bool) → l ≡ r → q ≡ false → (x || (r || false)) ≡ (((x || l) || q) || false)
same_tests true l r q e f = refl
same_tests false l r q e f = rw (e, f) (elim r as (λ v. (v || false) ≡ ((v || false) || false)) [ true ↦ refl | false ↦ refl ])

same_slash : (b : ℕ) → (b == slash) ≡ (slash == b)
same_slash b = grind (arith, nat_tests)

-- a byte other than "?" may stand in a path exactly if it may stand in a query
same_bytes : (b : ℕ) → (b == question_mark) ≡ false → may_stand Segment (codes "/") b ≡ may_stand Query [] b
unfolding is_plain
same_bytes b h =
    same_tests (is_unreserved b || is_sub_delim b || b == colon || b == at_sign) (b == slash) (slash == b) (b == question_mark) (same_slash b) h

pub path_as_query : (h : List ℕ) → lacks question_mark h ≡ true → escaped_component h ≡ escaped_path h
path_as_query [] k = refl
path_as_query (b ∷ h) k =
    let both = and_parts _ _ k in
    let same = same_bytes b (not-true (b == question_mark) both.0) in
    rw (same, path_as_query h both.1) refl

slash_may : (b : ℕ) → is_slash b ≡ true → may_stand Segment (codes "/") b ≡ true
unfolding is_plain is_unreserved is_sub_delim
slash_may b h = rw (eqb-true b slash h) refl

colon_may : (b : ℕ) → (b == colon) ≡ true → may_stand Segment (codes "/") b ≡ true
unfolding is_plain is_unreserved is_sub_delim
colon_may b h = rw (eqb-true b colon h) refl

digit_no_slash : (b : ℕ) → is_hex b ≡ true → is_slash b ≡ false
digit_no_slash b h = grind (arith, nat_tests)

digit_no_colon : (b : ℕ) → is_hex b ≡ true → (b == colon) ≡ false
digit_no_colon b h = grind (arith, nat_tests)

-- ---- the form of a path

stays_slash : (b : ℕ) (h : List ℕ) → is_slash b ≡ true → escaped_path (b ∷ h) ≡ b ∷ escaped_path h
stays_slash b h e = escaping.stays_allowed Segment (codes "/") b h (slash_may b e)

-- a byte that is no slash is followed by what is escaped of the rest, and no slash comes before that
other_byte : (b : ℕ) (h : List ℕ) → is_slash b ≡ false → (c : ℕ) × (u : List ℕ) × (escaped_path (b ∷ h) ≡ c ∷ u) × (is_slash c ≡ false)
other_byte b h e = by_stays (may_stand Segment (codes "/") b || is_escape b h) refl
  where
    by_stays : (v : Bool) → (may_stand Segment (codes "/") b || is_escape b h) ≡ v
        → (c : ℕ) × (u : List ℕ) × (escaped_path (b ∷ h) ≡ c ∷ u) × (is_slash c ≡ false)
    by_stays true f = (b, escaped_path h, escaping.stays Segment (codes "/") b h f, e)
    by_stays false f = (percent, _, escaping.becomes Segment (codes "/") b h f, refl)

pub rooted-escaped : (h : List ℕ) → is_rooted (escaped_path h) ≡ is_rooted h
rooted-escaped [] = refl
rooted-escaped (b ∷ h) = by_test (is_slash b) refl
  where
    by_test : (v : Bool) → is_slash b ≡ v → is_rooted (escaped_path (b ∷ h)) ≡ is_slash b
    by_test true e = ap is_rooted (stays_slash b h e)
    by_test false e = let o = other_byte b h e in ap is_rooted o.2 ∙ o.3 ∙ sym e

unrooted-escaped : (h : List ℕ) → unrooted (escaped_path h) ≡ escaped_path (unrooted h)
unrooted-escaped [] = refl
unrooted-escaped (b ∷ h) = by_test (is_slash b) refl
  where
    by_test : (v : Bool) → is_slash b ≡ v → unrooted (escaped_path (b ∷ h)) ≡ escaped_path (cond (is_slash b) h (b ∷ h))
    by_test true e =
        ap unrooted (stays_slash b h e) ∙ ap (λ v. cond v (escaped_path h) (b ∷ escaped_path h)) e
        ∙ sym (ap (λ v. escaped_path (cond v h (b ∷ h))) e)
    by_test false e =
        let o = other_byte b h e in
        ap unrooted o.2 ∙ ap (λ v. cond v o.1 (o.0 ∷ o.1)) o.3 ∙ sym o.2 ∙ sym (ap (λ v. escaped_path (cond v h (b ∷ h))) e)

pub two_slashes-escaped : (h : List ℕ) → has_two_slashes (escaped_path h) ≡ has_two_slashes h
two_slashes-escaped h =
    rw (rooted-escaped h, unrooted-escaped h, rooted-escaped (unrooted h)) refl

pub abempty-escaped : (h : List ℕ) → is_abempty h ≡ true → is_abempty (escaped_path h) ≡ true
abempty-escaped [] k = refl
abempty-escaped (b ∷ h) k = ap is_abempty (stays_slash b h k) ∙ k

pub noscheme-escaped : (h : List ℕ) → is_noscheme (escaped_path h) ≡ is_noscheme h
noscheme-escaped h =
    escaping.escaped-front Segment (codes "/") is_slash refl digit_no_slash slash_may (λ b. b == colon) refl digit_no_colon colon_may h

pub refusal-escaped : (v w : Bool) (h : List ℕ) → path_refusal v w (escaped_path h) ≡ path_refusal v w h
refusal-escaped v true h = refl
refusal-escaped v false h = rw (two_slashes-escaped h, noscheme-escaped h) refl

-- ---- its segments

pub pieces-escaped : (h : List ℕ) → pieces (escaped_path h) ≡ map escaped_path (pieces h)
pieces-escaped h =
    ap (slice_split is_slash) (unrooted-escaped h)
    ∙ escaping.escaped-pieces Segment (codes "/") is_slash refl digit_no_slash slash_may (unrooted h)

no_slash_among : (s : List ℕ) → none_pass is_slash s ≡ true → list_all (λ b. not (is_among (codes "/") b)) s ≡ true
no_slash_among [] h = refl
no_slash_among (b ∷ s) h =
    let both = and_parts _ _ h in
    and_from _ _ (ap (λ v. not (v || false)) (sym (same_slash b)) ∙ or_false (is_slash b) both.0) (no_slash_among s both.1)
  where
    or_false : (v : Bool) → not v ≡ true → not (v || false) ≡ true
    or_false true k = k
    or_false false k = refl

-- no piece has a slash
pieces_lack : (t : List ℕ) → list_all (none_pass is_slash) (slice_split is_slash t) ≡ true
pieces_lack [] = refl
pieces_lack (b ∷ t) = by_test (is_slash b) refl (pieces_lack t)
  where
    onto : (ss : List (List ℕ)) → is_slash b ≡ false → list_all (none_pass is_slash) ss ≡ true → list_all (none_pass is_slash) (onto_first b ss) ≡ true
    onto [] e h = ap (λ v. (not v && true) && true) e
    onto (s ∷ ss) e h = ap (λ v. (not v && none_pass is_slash s) && list_all (none_pass is_slash) ss) e ∙ h

    by_test : (v : Bool) → is_slash b ≡ v → list_all (none_pass is_slash) (slice_split is_slash t) ≡ true
        → list_all (none_pass is_slash) (slice_split is_slash (b ∷ t)) ≡ true
    by_test true e h = ap (list_all (none_pass is_slash)) (slice_split-cons_yes is_slash b t e) ∙ h
    by_test false e h = ap (list_all (none_pass is_slash)) (slice_split-cons_no is_slash b t e) ∙ onto (slice_split is_slash t) e h

each_segment : (ps : List (List ℕ)) → list_all (none_pass is_slash) ps ≡ true → list_all segment.is_segment (map escaped_path ps) ≡ true
each_segment [] h = refl
each_segment (s ∷ ss) h =
    let both = and_parts _ _ h in
    and_from _ _ (escaping.IsIn-escaped Segment (codes "/") s (no_slash_among s both.0)) (each_segment ss both.1)

-- the segments of a path with escapes are segments
pub segments-escaped : (h : List ℕ) → list_all segment.is_segment (pieces (escaped_path h)) ≡ true
segments-escaped h = ap (list_all segment.is_segment) (pieces-escaped h) ∙ each_segment (pieces h) (pieces_lack (unrooted h))

length-map : {A B : Type 0} (f : A → B) (l : List A) → length (map f l) ≡ length l
length-map f [] = refl
length-map f (x ∷ l) = ap (λ n. suc n) (length-map f l)

all-take : (n : ℕ) (ps : List (List ℕ)) → list_all segment.is_segment ps ≡ true → list_all segment.is_segment (take n ps) ≡ true
all-take zero ps h = refl
all-take (suc n) [] h = refl
all-take (suc n) (s ∷ ss) h = let both = and_parts _ _ h in and_from _ _ both.0 (all-take n ss both.1)

-- only too many segments are a fault of such a path
pub path_fault-escaped : (h : List ℕ) → paths.fault (escaped_path h) ≡ length_fault max_segments (length (pieces h))
unfolding paths.fault
path_fault-escaped h =
    rw (no_segment_fault (take max_segments (pieces (escaped_path h))) (all-take max_segments (pieces (escaped_path h)) (segments-escaped h)))
    (ap (length_fault max_segments) (ap length (pieces-escaped h) ∙ length-map escaped_path (pieces h)))

-- a path is not changed
pub path_stays : (h : List ℕ) → IsPath h → escaped_path h ≡ h
path_stays h is = by_root h (unrooted_stays h (is.each))
  where
    segments_stay : (ps : List (List ℕ)) → list_all segment.is_segment ps ≡ true → map escaped_path ps ≡ ps
    segments_stay [] k = refl
    segments_stay (s ∷ ss) k =
        let both = and_parts _ _ k in rw (escaping.escaped-IsIn-nil Segment (codes "/") s both.0, segments_stay ss both.1) refl

    unrooted_stays : (h : List ℕ) → list_all segment.is_segment (pieces h) ≡ true → escaped_path (unrooted h) ≡ unrooted h
    unrooted_stays h k =
        sym (joined-pieces (escaped_path (unrooted h)))
        ∙ ap (join_with_byte slash) (escaping.escaped-pieces Segment (codes "/") is_slash refl digit_no_slash slash_may (unrooted h)
        ∙ segments_stay (pieces h) k)
        ∙ joined-pieces (unrooted h)

    by_root : (h : List ℕ) → escaped_path (unrooted h) ≡ unrooted h → escaped_path h ≡ h
    by_root [] k = refl
    by_root (b ∷ h) k = by_test (is_slash b) refl k
      where
        by_test : (v : Bool) → is_slash b ≡ v → escaped_path (cond (is_slash b) h (b ∷ h)) ≡ cond (is_slash b) h (b ∷ h) → escaped_path (b ∷ h) ≡ b ∷ h
        by_test true e k = stays_slash b h e ∙ ap (λ l. b ∷ l) (sym (ap (λ v. escaped_path (cond v h (b ∷ h))) e) ∙ k ∙ ap (λ v. cond v h (b ∷ h)) e)
        by_test false e k = sym (ap (λ v. escaped_path (cond v h (b ∷ h))) e) ∙ k ∙ ap (λ v. cond v h (b ∷ h)) e
