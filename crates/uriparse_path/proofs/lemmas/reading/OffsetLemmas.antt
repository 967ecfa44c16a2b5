-- The place of the leftmost fault of a path.
use Rattle.std.proofs.Common.{◌≡◌, ◌≢◌, ℕ, zero, suc, ◌+◌, ◌-◌, ◌<◌, ◌≤◌, ◌↔◌, cond, Option, Some, None, Bool, true, false, ◌&&◌, ◌||◌, List, [], ◌∷◌, length, take, refl, sym, ap, ◌∙◌, arith}
use Rattle.std.specs.Prelude.{not, ◌==◌, slice_get}
use Rattle.std.specs.Option.{option_map}
use Rattle.std.specs.List.{slice_split}
use Rattle.std.proofs.lemmas.Bool.{and_parts, eqb-true, eqb-false, ne_eqb}
use Rattle.uriparse_text.specs.declared.internal.class.Class.TheVariants.{Segment, Query}
use Rattle.uriparse_text.specs.Bytes.{is_hex, is_unreserved, is_sub_delim, colon, at_sign, percent, question_mark}
use Rattle.uriparse_text.specs.Cuts.{up_to}
use Rattle.uriparse_text.specs.Offset as text_offset
use Rattle.uriparse_text.specs.Classes.{is_plain}
use Rattle.uriparse_text.specs.Tokens.{is_escape}
use Rattle.uriparse_text.specs.Faults.{begins_fine}
use Rattle.uriparse_text.specs.declared.segment.error.PathError.{PathError}
use Rattle.uriparse_text.specs.declared.segment.error.PathError.TheVariants.{ExceededMaximumLength, InvalidCharacter, InvalidPercentEncoding}
use Rattle.uriparse_text.specs.Segment as segment
use Rattle.uriparse_path.specs.Path.{is_rooted, is_slash, max_segments, root, unrooted}
use Rattle.uriparse_path.specs.Faults.{error_of, fault, fault_within}
use Rattle.uriparse_path.specs.Offset.{fault_offset, offset_within}
use Rattle.uriparse_text.proofs.lemmas.tokens.TokenLemmas.{escape_at, no_escape_with, no_escape_across}
use Rattle.uriparse_text.proofs.lemmas.canonical.RunLemmas.{no_escape}
use Rattle.uriparse_text.proofs.lemmas.classes.FaultByByteLemmas.{fine_plain, fine_escape, hex_plain}
use Rattle.uriparse_text.proofs.lemmas.classes.OffsetLemmas as text
use Rattle.uriparse_path.proofs.lemmas.reading.FaultLemmas.{SameFrom, at_limit, after_plain, after_sign, after_slash, faulty_byte, no_more}

pub offset-nil : (n : ℕ) → offset_within n [] ≡ 0
unfolding offset_within
offset-nil n = refl

pub offset-fine : (n b : ℕ) (t : List ℕ) → begins_fine Segment (b ∷ t) ≡ true → offset_within n (b ∷ t) ≡ suc (offset_within n t)
unfolding offset_within
offset-fine n b t fine =
    ap (λ v. cond v (1 + offset_within n t) (cond (is_slash b && not (n == 0)) (1 + offset_within (n - 1) t) 0)) fine ∙ (omega arith)

offset-other : (n b : ℕ) (t : List ℕ) → begins_fine Segment (b ∷ t) ≡ false
    → offset_within n (b ∷ t) ≡ cond (is_slash b && not (n == 0)) (1 + offset_within (n - 1) t) 0
unfolding offset_within
offset-other n b t faulty = ap (λ v. cond v (1 + offset_within n t) (cond (is_slash b && not (n == 0)) (1 + offset_within (n - 1) t) 0)) faulty

pub offset-slash : (n b : ℕ) (t : List ℕ) → begins_fine Segment (b ∷ t) ≡ false → is_slash b ≡ true → n ≢ 0 → offset_within n (b ∷ t) ≡ suc (offset_within (n - 1) t)
offset-slash n b t faulty slash some =
    offset-other n b t faulty
    ∙ ap (λ v. cond (v && not (n == 0)) (1 + offset_within (n - 1) t) 0) slash
    ∙ ap (λ v. cond (not v) (1 + offset_within (n - 1) t) 0) (ne_eqb _ _ some) ∙ (omega arith)

pub offset-full : (b : ℕ) (t : List ℕ) → begins_fine Segment (b ∷ t) ≡ false → offset_within 0 (b ∷ t) ≡ 0
offset-full b t faulty = offset-other 0 b t faulty ∙ by_test (is_slash b)
  where
    by_test : (v : Bool) → cond (v && not (0 == 0)) (1 + offset_within (0 - 1) t) 0 ≡ 0
    by_test true = refl
    by_test false = refl

pub offset-faulty : (n b : ℕ) (t : List ℕ) → begins_fine Segment (b ∷ t) ≡ false → is_slash b ≡ false → offset_within n (b ∷ t) ≡ 0
offset-faulty n b t faulty other = offset-other n b t faulty ∙ ap (λ v. cond (v && not (n == 0)) (1 + offset_within (n - 1) t) 0) other

-- ---- the walk

pub record IsReached (slashes : ℕ) (t : List ℕ) (left : ℕ) (rest : List ℕ) : Type 0 where
  pub within : length rest ≤ length t
  pub total : offset_within slashes t + length rest ≡ length t + offset_within left rest

pub walk_begins : (slashes : ℕ) (t : List ℕ) → IsReached slashes t slashes t
walk_begins slashes t = record { within = omega arith; total = omega arith }

module _ (slashes : ℕ) (t : List ℕ) (left : ℕ) (rest : List ℕ) (b : ℕ) (after : List ℕ) (is : IsReached slashes t left rest) (first : rest ≡ b ∷ after) where
  pub walk_passes : begins_fine Segment rest ≡ true → IsReached slashes t left after
  walk_passes fine =
      let within = is.within in let total = is.total in let long = ap length first in
      let f = ap (offset_within left) first ∙ offset-fine left b after (sym (ap (begins_fine Segment) first) ∙ fine) in
      record { within = omega arith; total = omega (arith, total, f) }

  pub walk_passes_slash : begins_fine Segment rest ≡ false → is_slash b ≡ true → left ≢ 0 → IsReached slashes t (left - 1) after
  walk_passes_slash faulty slash some =
      let within = is.within in let total = is.total in let long = ap length first in
      let f = ap (offset_within left) first ∙ offset-slash left b after (sym (ap (begins_fine Segment) first) ∙ faulty) slash some in
      record { within = omega arith; total = omega (arith, total, f) }

  pub walk_stops_full : begins_fine Segment rest ≡ false → left ≡ 0 → length t - length rest ≡ offset_within slashes t
  walk_stops_full faulty none =
      let within = is.within in let total = is.total in
      let f = ap (λ n. offset_within n rest) none ∙ ap (offset_within 0) first ∙ offset-full b after (sym (ap (begins_fine Segment) first) ∙ faulty) in
      omega (arith, total, f)

  pub walk_stops : begins_fine Segment rest ≡ false → is_slash b ≡ false → length t - length rest ≡ offset_within slashes t
  walk_stops faulty other =
      let within = is.within in let total = is.total in
      let f = ap (offset_within left) first ∙ offset-faulty left b after (sym (ap (begins_fine Segment) first) ∙ faulty) other in omega (arith, total, f)

pub walk_ends : (slashes : ℕ) (t : List ℕ) (left : ℕ) (rest : List ℕ) → IsReached slashes t left rest → length rest ≡ 0 → length t ≡ offset_within slashes t
walk_ends slashes t left [] is end = let total = is.total in let f = offset-nil left in omega (arith, total, f)
walk_ends slashes t left (b ∷ rest) is end = absurd (omega (arith, end))

pub rooted_length : (t : List ℕ) → length t ≡ length (root (is_rooted t)) + length (unrooted t)
rooted_length [] = refl
rooted_length (b ∷ t) = by_test (is_slash b)
  where
    by_test : (v : Bool) → length (b ∷ t) ≡ length (root v) + length (cond v t (b ∷ t))
    by_test true = omega arith
    by_test false = omega arith

-- ---- a text with no slash too many: up to the first question mark its bytes are those of a query

query_plain : (b : ℕ) → is_plain Query b ≡ (is_plain Segment b || (is_slash b || (b == question_mark)))
unfolding is_plain
query_plain b = by_kind (is_unreserved b) (is_sub_delim b) (b == colon) (b == at_sign)
  where
    by_kind : (u s c a : Bool)
        → (u || s || c || a || is_slash b || (b == question_mark)) ≡ ((u || s || c || a) || (is_slash b || (b == question_mark)))
    by_kind true s c a = refl
    by_kind false true c a = refl
    by_kind false false true a = refl
    by_kind false false false true = refl
    by_kind false false false false = refl

-- a question mark is no digit, so an escape does not go beyond it
escape_up_to : (b : ℕ) (t : List ℕ) → is_escape b (up_to (λ c. c == question_mark) t) ≡ is_escape b t
escape_up_to b [] = refl
escape_up_to b (c ∷ []) = by_first (c == question_mark)
  where
    by_first : (v : Bool) → is_escape b (cond v [] (c ∷ [])) ≡ is_escape b (c ∷ [])
    by_first true = refl
    by_first false = refl
escape_up_to b (c ∷ d ∷ t) = by_first (c == question_mark) refl
  where
    by_second : (v : Bool) → (d == question_mark) ≡ v
        → is_escape b (c ∷ cond v [] (d ∷ up_to (λ x. x == question_mark) t)) ≡ is_escape b (c ∷ d ∷ t)
    by_second true e = sym (ap (λ x. is_escape b (c ∷ x ∷ t)) (eqb-true d question_mark e) ∙ no_escape_across b c question_mark t refl)
    by_second false e = refl

    by_first : (v : Bool) → (c == question_mark) ≡ v
        → is_escape b (cond v [] (c ∷ up_to (λ x. x == question_mark) (d ∷ t))) ≡ is_escape b (c ∷ d ∷ t)
    by_first true e = sym (ap (λ x. is_escape b (x ∷ d ∷ t)) (eqb-true c question_mark e) ∙ no_escape_with b question_mark (d ∷ t) refl)
    by_first false e = by_second (d == question_mark) refl

pub up_to-shorter : (p : ℕ → Bool) (t : List ℕ) → length (up_to p t) ≤ length t
up_to-shorter p [] = omega arith
up_to-shorter p (b ∷ t) = by_first (p b) (up_to-shorter p t)
  where
    by_first : (v : Bool) → length (up_to p t) ≤ length t → length (cond v [] (b ∷ up_to p t)) ≤ length (b ∷ t)
    by_first true h = omega arith
    by_first false h = omega arith

front_fine : (b : ℕ) (t : List ℕ) → begins_fine Query (b ∷ up_to (λ c. c == question_mark) t) ≡ begins_fine Query (b ∷ t)
front_fine b t = ap (λ v. is_plain Query b || v) (escape_up_to b t)

-- a fault after a question mark is none of what precedes it
pub offset_up_to : (t : List ℕ) → length (up_to (λ c. c == question_mark) (take (text_offset.fault_offset Query t) t))
    ≡ text_offset.fault_offset Query (up_to (λ c. c == question_mark) t)
offset_up_to [] = ap (λ k. length (up_to (λ c. c == question_mark) (take k []))) (text.offset-nil Query) ∙ sym (text.offset-nil Query)
offset_up_to (b ∷ t) = by_fine (begins_fine Query (b ∷ t)) refl (offset_up_to t)
  where
    fine : List ℕ
    fine = take (text_offset.fault_offset Query t) t

    Later : Type 0
    Later = length (up_to (λ c. c == question_mark) fine) ≡ text_offset.fault_offset Query (up_to (λ c. c == question_mark) t)

    by_mark : (w : Bool) → begins_fine Query (b ∷ t) ≡ true → Later → length (cond w [] (b ∷ up_to (λ c. c == question_mark) fine))
        ≡ text_offset.fault_offset Query (cond w [] (b ∷ up_to (λ c. c == question_mark) t))
    by_mark true is later = sym (text.offset-nil Query)
    by_mark false is later = ap suc later ∙ sym (text.offset-fine Query b (up_to (λ c. c == question_mark) t) (front_fine b t ∙ is))

    no_front : (w : Bool) → begins_fine Query (b ∷ t) ≡ false
        → text_offset.fault_offset Query (cond w [] (b ∷ up_to (λ c. c == question_mark) t)) ≡ 0
    no_front true is = text.offset-nil Query
    no_front false is = text.offset-faulty Query b (up_to (λ c. c == question_mark) t) (front_fine b t ∙ is)

    by_fine : (v : Bool) → begins_fine Query (b ∷ t) ≡ v → Later
        → length (up_to (λ c. c == question_mark) (take (text_offset.fault_offset Query (b ∷ t)) (b ∷ t)))
        ≡ text_offset.fault_offset Query (up_to (λ c. c == question_mark) (b ∷ t))
    by_fine true is later =
        ap (λ k. length (up_to (λ c. c == question_mark) (take k (b ∷ t)))) (text.offset-fine Query b t is) ∙ by_mark (b == question_mark) is later
    by_fine false is later =
        ap (λ k. length (up_to (λ c. c == question_mark) (take k (b ∷ t)))) (text.offset-faulty Query b t is) ∙ sym (no_front (b == question_mark) is)

-- a question mark begins no token of a segment
no_mark : (t : List ℕ) → begins_fine Segment (question_mark ∷ t) ≡ false
unfolding is_plain is_unreserved is_sub_delim
no_mark t = no_escape question_mark t refl

pub offset_of_byte : (n : ℕ) (t : List ℕ) → length t ≤ n → text_offset.fault_offset Query (up_to (λ c. c == question_mark) t) ≡ offset_within n t
offset_of_byte n [] h = text.offset-nil Query ∙ sym (offset-nil n)
offset_of_byte n (b ∷ t) h = by_mark (b == question_mark) refl (offset_of_byte n t) (offset_of_byte (n - 1) t)
  where
    front : List ℕ
    front = up_to (λ c. c == question_mark) t

    -- what is known of the rest
    Later : ℕ → Type 0
    Later m = length t ≤ m → text_offset.fault_offset Query front ≡ offset_within m t

    fine_query : (v : Bool) → (is_plain Segment b || (is_slash b || (b == question_mark))) ≡ v → is_escape b t ≡ false → begins_fine Query (b ∷ front) ≡ v
    fine_query true e f = rw (query_plain b ∙ e) refl
    fine_query false e f = rw (query_plain b ∙ e) (escape_up_to b t ∙ f)

    by_slash : (v : Bool) → is_slash b ≡ v → is_plain Segment b ≡ false → is_escape b t ≡ false → (b == question_mark) ≡ false → Later n → Later (n - 1)
        → text_offset.fault_offset Query (b ∷ front) ≡ offset_within n (b ∷ t)
    by_slash true e f g m same less =
        let some : n ≢ 0 = λ none. (omega (arith, h, none)) in
        text.offset-fine Query b front (fine_query true (rw (f, e) refl) g)
        ∙ ap suc (less (omega arith))
        ∙ sym (offset-slash n b t (rw (f, g) refl) e some)
    by_slash false e f g m same less =
        text.offset-faulty Query b front (fine_query false (rw (f, e, m) refl) g) ∙ sym (offset-faulty n b t (rw (f, g) refl) e)

    by_escape : (v : Bool) → is_escape b t ≡ v → is_plain Segment b ≡ false → (b == question_mark) ≡ false → Later n → Later (n - 1)
        → text_offset.fault_offset Query (b ∷ front) ≡ offset_within n (b ∷ t)
    by_escape true e f m same less =
        text.offset-fine Query b front (fine_escape Query b front (escape_up_to b t ∙ e))
        ∙ ap suc (same (omega arith))
        ∙ sym (offset-fine n b t (rw (f, e) refl))
    by_escape false e f m same less = by_slash (is_slash b) refl f e m same less

    by_plain : (v : Bool) → is_plain Segment b ≡ v → (b == question_mark) ≡ false → Later n → Later (n - 1)
        → text_offset.fault_offset Query (b ∷ front) ≡ offset_within n (b ∷ t)
    by_plain true e m same less =
        text.offset-fine Query b front (fine_plain Query b front (query_plain b ∙ ap (λ v. v || (is_slash b || (b == question_mark))) e))
        ∙ ap suc (same (omega arith))
        ∙ sym (offset-fine n b t (rw e refl))
    by_plain false e m same less = by_escape (is_escape b t) refl e m same less

    by_mark : (v : Bool) → (b == question_mark) ≡ v → Later n → Later (n - 1) → text_offset.fault_offset Query (cond v [] (b ∷ front)) ≡ offset_within n (b ∷ t)
    by_mark true e same less =
        let mark : b ≡ question_mark = eqb-true b question_mark e in
        text.offset-nil Query
        ∙ sym (ap (λ x. offset_within n (x ∷ t)) mark ∙ offset-faulty n question_mark t (no_mark t) refl)
    by_mark false e same less = by_plain (is_plain Segment b) refl e same less

-- what precedes the first question mark of the faultless front
pub offset_of_front : (n offset : ℕ) (t fine front : List ℕ) → front ≡ up_to (λ c. c == question_mark) fine → fine ≡ take offset t
    → offset ≡ text_offset.fault_offset Query t → length t ≤ n → length front ≡ offset_within n t
offset_of_front n offset t fine front up cut is h =
    ap length up
    ∙ ap (λ u. length (up_to (λ c. c == question_mark) u)) cut
    ∙ ap (λ k. length (up_to (λ c. c == question_mark) (take k t))) is
    ∙ offset_up_to t
    ∙ offset_of_byte n t h

-- ---- a path with a fault has it before its end

pub before_end_within : (n : ℕ) (t : List ℕ) (e : PathError) → fault_within (n + 1) (slice_split is_slash t) ≡ Some e → offset_within n t < length t
before_end_within n [] e h = let none = no_more n in cc
before_end_within n (b ∷ t) e h = by_plain (is_plain Segment b) refl (before_end_within n t e) (before_end_within (n - 1) t e)
  where
    later : SameFrom n (b ∷ t) t → begins_fine Segment (b ∷ t) ≡ true
        → (fault_within (n + 1) (slice_split is_slash t) ≡ Some e → offset_within n t < length t) → offset_within n (b ∷ t) < length (b ∷ t)
    later same fine shorter = let s = shorter (sym same.fault ∙ h) in omega (arith, s, offset-fine n b t fine)

    by_slash : (u v : Bool) → is_slash b ≡ u → (n == 0) ≡ v → begins_fine Segment (b ∷ t) ≡ false
        → (fault_within (n - 1 + 1) (slice_split is_slash t) ≡ Some e → offset_within (n - 1) t < length t) → offset_within n (b ∷ t) < length (b ∷ t)
    by_slash true true f g faulty shorter = let none = eqb-true n 0 g in omega (arith, ap (λ m. offset_within m (b ∷ t)) none ∙ offset-full b t faulty)
    by_slash true false f g faulty shorter = let s = shorter (sym (after_slash (n - 1) b t f) ∙ ap (λ m. fault_within m (slice_split is_slash (b ∷ t))) (omega (arith, eqb-false n 0 g)) ∙ h) in omega (arith, s, offset-slash n b t faulty f (eqb-false n 0 g))
    by_slash false v f g faulty shorter = omega (arith, offset-faulty n b t faulty f)

    by_escape : (w : Bool) → is_escape b t ≡ w → is_plain Segment b ≡ false
        → (fault_within (n + 1) (slice_split is_slash t) ≡ Some e → offset_within n t < length t)
        → (fault_within (n - 1 + 1) (slice_split is_slash t) ≡ Some e → offset_within (n - 1) t < length t) → offset_within n (b ∷ t) < length (b ∷ t)
    by_escape true f g shorter other = later (after_sign n b t f) (rw (g, f) refl) shorter
    by_escape false f g shorter other = by_slash (is_slash b) (n == 0) refl refl (rw (g, f) refl) other

    by_plain : (v : Bool) → is_plain Segment b ≡ v
        → (fault_within (n + 1) (slice_split is_slash t) ≡ Some e → offset_within n t < length t)
        → (fault_within (n - 1 + 1) (slice_split is_slash t) ≡ Some e → offset_within (n - 1) t < length t) → offset_within n (b ∷ t) < length (b ∷ t)
    by_plain true f shorter other = later (after_plain n b t f) (rw f refl) shorter
    by_plain false f shorter other = by_escape (is_escape b t) refl f shorter other

pub before_end : (t : List ℕ) (e : PathError) → fault t ≡ Some e → fault_offset t < length t
unfolding fault max_segments
before_end t e h =
    let later = before_end_within (max_segments - 1) (unrooted t) e h in
    omega (arith, later, rooted_length t)

-- ---- what precedes the place has no fault

module _ (n : ℕ) where
  -- the digits of an escape are fine themselves
  escape_before : (b : ℕ) (t : List ℕ) → is_escape b t ≡ true → is_escape b (take (offset_within n t) t) ≡ true
  escape_before b [] is = cc
  escape_before b (c ∷ []) is = cc
  escape_before b (high ∷ low ∷ rest) is =
      let both = and_parts (is_hex high) (is_hex low) (escape_at b (high ∷ low ∷ rest) is).digits in
      let second = offset-fine n low rest (fine_plain Segment low rest (hex_plain Segment low both.1)) in
      let first = offset-fine n high (low ∷ rest) (fine_plain Segment high (low ∷ rest) (hex_plain Segment high both.0)) in
      let two : offset_within n (high ∷ low ∷ rest) ≡ suc (suc (offset_within n rest)) = omega (arith, first, second) in
      ap (λ k. is_escape b (take k (high ∷ low ∷ rest))) two ∙ is

-- the pieces of the text have no fault, if so many slashes may be in it
abbrev NoFault : ℕ → List ℕ → Type 0
NoFault n t = fault_within (n + 1) (slice_split is_slash t) ≡ None

before_within : (n : ℕ) (t : List ℕ) → NoFault n (take (offset_within n t) t)
before_within n [] = ap (λ k. fault_within (n + 1) (slice_split is_slash (take k []))) (offset-nil n) ∙ no_more n
before_within n (b ∷ t) = by_plain (is_plain Segment b) refl (before_within n t) (before_within (n - 1) t)
  where
    here : offset_within n (b ∷ t) ≡ 0 → NoFault n (take (offset_within n (b ∷ t)) (b ∷ t))
    here none = ap (λ k. fault_within (n + 1) (slice_split is_slash (take k (b ∷ t)))) none ∙ no_more n

    later : SameFrom n (b ∷ take (offset_within n t) t) (take (offset_within n t) t) → begins_fine Segment (b ∷ t) ≡ true
        → NoFault n (take (offset_within n t) t) → NoFault n (take (offset_within n (b ∷ t)) (b ∷ t))
    later same fine none =
        ap (λ k. fault_within (n + 1) (slice_split is_slash (take k (b ∷ t)))) (offset-fine n b t fine) ∙ same.fault ∙ none

    by_slash : (u v : Bool) → is_slash b ≡ u → (n == 0) ≡ v → begins_fine Segment (b ∷ t) ≡ false
        → NoFault (n - 1) (take (offset_within (n - 1) t) t) → NoFault n (take (offset_within n (b ∷ t)) (b ∷ t))
    by_slash true true f g faulty none = here (ap (λ m. offset_within m (b ∷ t)) (eqb-true n 0 g) ∙ offset-full b t faulty)
    by_slash true false f g faulty none =
        let some = eqb-false n 0 g in
        let one_less : n + 1 ≡ n - 1 + 1 + 1 = omega (arith, some) in
        ap (λ k. fault_within (n + 1) (slice_split is_slash (take k (b ∷ t)))) (offset-slash n b t faulty f some)
        ∙ ap (λ m. fault_within m (slice_split is_slash (b ∷ take (offset_within (n - 1) t) t))) one_less
        ∙ after_slash (n - 1) b (take (offset_within (n - 1) t) t) f ∙ none
    by_slash false v f g faulty none = here (offset-faulty n b t faulty f)

    by_escape : (w : Bool) → is_escape b t ≡ w → is_plain Segment b ≡ false → NoFault n (take (offset_within n t) t)
        → NoFault (n - 1) (take (offset_within (n - 1) t) t) → NoFault n (take (offset_within n (b ∷ t)) (b ∷ t))
    by_escape true f g none other = later (after_sign n b (take (offset_within n t) t) (escape_before n b t f)) (rw (g, f) refl) none
    by_escape false f g none other = by_slash (is_slash b) (n == 0) refl refl (rw (g, f) refl) other

    by_plain : (v : Bool) → is_plain Segment b ≡ v → NoFault n (take (offset_within n t) t)
        → NoFault (n - 1) (take (offset_within (n - 1) t) t) → NoFault n (take (offset_within n (b ∷ t)) (b ∷ t))
    by_plain true f none other = later (after_plain n b (take (offset_within n t) t) f) (rw f refl) none
    by_plain false f none other = by_escape (is_escape b t) refl f none other

unrooted_front : (b k : ℕ) (t : List ℕ) → is_slash b ≡ false → unrooted (take k (b ∷ t)) ≡ take k (b ∷ t)
unrooted_front b zero t other = refl
unrooted_front b (suc k) t other = ap (λ v. cond v (take k t) (b ∷ take k t)) other

pub faultless_before : (t : List ℕ) → fault (take (fault_offset t) t) ≡ None
unfolding fault max_segments
faultless_before [] =
    let k : fault_offset [] ≡ 0 = omega (arith, offset-nil (max_segments - 1)) in
    ap (λ m. fault_within max_segments (slice_split is_slash (unrooted (take m [])))) k ∙ no_more (max_segments - 1)
faultless_before (b ∷ t) = by_slash (is_slash b) refl
  where
    by_slash : (v : Bool) → is_slash b ≡ v → fault (take (fault_offset (b ∷ t)) (b ∷ t)) ≡ None
    by_slash true e =
        let k : fault_offset (b ∷ t) ≡ suc (offset_within (max_segments - 1) t) =
        ap (λ v. length (root v) + offset_within (max_segments - 1) (cond v t (b ∷ t))) e ∙ (omega arith) in
        ap (λ m. fault_within max_segments (slice_split is_slash (unrooted (take m (b ∷ t))))) k
        ∙ ap (λ v. fault_within max_segments (slice_split is_slash (cond v (take (offset_within (max_segments - 1) t) t) (b ∷ take (offset_within (max_segments - 1) t) t)))) e
        ∙ before_within (max_segments - 1) t
    by_slash false e =
        let k : fault_offset (b ∷ t) ≡ offset_within (max_segments - 1) (b ∷ t) =
        ap (λ v. length (root v) + offset_within (max_segments - 1) (cond v t (b ∷ t))) e ∙ (omega arith) in
        ap (λ m. fault_within max_segments (slice_split is_slash (unrooted (take m (b ∷ t))))) k
        ∙ ap (λ u. fault_within max_segments (slice_split is_slash u)) (unrooted_front b (offset_within (max_segments - 1) (b ∷ t)) t e)
        ∙ before_within (max_segments - 1) (b ∷ t)

-- ---- the fault is that of the byte at the place

byte_within : (n : ℕ) (t : List ℕ) → fault_within (n + 1) (slice_split is_slash t) ≡ option_map error_of (slice_get t (offset_within n t))
byte_within n [] = no_more n
byte_within n (b ∷ t) = by_plain (is_plain Segment b) refl (byte_within n t) (byte_within (n - 1) t)
  where
    There : Type 0
    There = fault_within (n + 1) (slice_split is_slash (b ∷ t)) ≡ option_map error_of (slice_get (b ∷ t) (offset_within n (b ∷ t)))

    Later : ℕ → Type 0
    Later m = fault_within (m + 1) (slice_split is_slash t) ≡ option_map error_of (slice_get t (offset_within m t))

    here : offset_within n (b ∷ t) ≡ 0 → fault_within (n + 1) (slice_split is_slash (b ∷ t)) ≡ Some (error_of b) → There
    here none is = is ∙ sym (ap (λ k. option_map error_of (slice_get (b ∷ t) k)) none)

    later : SameFrom n (b ∷ t) t → begins_fine Segment (b ∷ t) ≡ true → Later n → There
    later same fine is = same.fault ∙ is ∙ sym (ap (λ k. option_map error_of (slice_get (b ∷ t) k)) (offset-fine n b t fine))

    error_is : (v : Bool) → is_slash b ≡ v → error_of b ≡ cond v ExceededMaximumLength (segment.error_of b)
    error_is v f = ap (λ x. cond x ExceededMaximumLength (segment.error_of b)) f

    by_slash : (u v : Bool) → is_slash b ≡ u → (n == 0) ≡ v → is_plain Segment b ≡ false → is_escape b t ≡ false → Later (n - 1) → There
    by_slash true true f g plain never is =
        let none = eqb-true n 0 g in
        here (ap (λ m. offset_within m (b ∷ t)) none ∙ offset-full b t (rw (plain, never) refl))
        (ap (λ m. fault_within (m + 1) (slice_split is_slash (b ∷ t))) none ∙ at_limit b t f ∙ sym (ap Some (error_is true f)))
    by_slash true false f g plain never is =
        let some = eqb-false n 0 g in
        let one_less : n + 1 ≡ n - 1 + 1 + 1 = omega (arith, some) in
        ap (λ m. fault_within m (slice_split is_slash (b ∷ t))) one_less
        ∙ after_slash (n - 1) b t f ∙ is
        ∙ sym (ap (λ k. option_map error_of (slice_get (b ∷ t) k)) (offset-slash n b t (rw (plain, never) refl) f some))
    by_slash false v f g plain never is =
        here (offset-faulty n b t (rw (plain, never) refl) f) (faulty_byte n b t plain f never ∙ sym (ap Some (error_is false f)))

    by_escape : (w : Bool) → is_escape b t ≡ w → is_plain Segment b ≡ false → Later n → Later (n - 1) → There
    by_escape true f g is other = later (after_sign n b t f) (rw (g, f) refl) is
    by_escape false f g is other = by_slash (is_slash b) (n == 0) refl refl g f other

    by_plain : (v : Bool) → is_plain Segment b ≡ v → Later n → Later (n - 1) → There
    by_plain true f is other = later (after_plain n b t f) (rw f refl) is
    by_plain false f is other = by_escape (is_escape b t) refl f is other

pub fault_there : (t : List ℕ) → fault t ≡ option_map error_of (slice_get t (fault_offset t))
unfolding fault max_segments
fault_there [] = no_more (max_segments - 1)
fault_there (b ∷ t) = by_slash (is_slash b) refl
  where
    by_slash : (v : Bool) → is_slash b ≡ v → fault (b ∷ t) ≡ option_map error_of (slice_get (b ∷ t) (fault_offset (b ∷ t)))
    by_slash true e =
        let k : fault_offset (b ∷ t) ≡ suc (offset_within (max_segments - 1) t) =
        ap (λ v. length (root v) + offset_within (max_segments - 1) (cond v t (b ∷ t))) e ∙ (omega arith) in
        ap (λ v. fault_within max_segments (slice_split is_slash (cond v t (b ∷ t)))) e
        ∙ byte_within (max_segments - 1) t
        ∙ sym (ap (λ m. option_map error_of (slice_get (b ∷ t) m)) k)
    by_slash false e =
        let k : fault_offset (b ∷ t) ≡ offset_within (max_segments - 1) (b ∷ t) =
        ap (λ v. length (root v) + offset_within (max_segments - 1) (cond v t (b ∷ t))) e ∙ (omega arith) in
        ap (λ v. fault_within max_segments (slice_split is_slash (cond v t (b ∷ t)))) e
        ∙ byte_within (max_segments - 1) (b ∷ t)
        ∙ sym (ap (λ m. option_map error_of (slice_get (b ∷ t) m)) k)

-- ---- the byte is a `%` exactly for the error of an escape

pub escape_of_byte : (o : Option ℕ) (e : PathError) → option_map error_of o ≡ Some e → (e ≡ InvalidPercentEncoding) ↔ (o ≡ Some percent)
escape_of_byte None e h = absurd (cc)
escape_of_byte (Some b) e h = (λ is. sign is, λ there. sym (of_sign there))
  where
    same : error_of b ≡ e
    same = cc

    by_tests : (v w : Bool) → (b == percent) ≡ w → cond v ExceededMaximumLength (cond w InvalidPercentEncoding InvalidCharacter) ≡ InvalidPercentEncoding → Some b ≡ Some percent
    by_tests true w f k = absurd (cc)
    by_tests false true f k = ap Some (eqb-true b percent f)
    by_tests false false f k = absurd (cc)

    sign : e ≡ InvalidPercentEncoding → Some b ≡ Some percent
    sign is = by_tests (is_slash b) (b == percent) refl (same ∙ is)

    of_sign : Some b ≡ Some percent → InvalidPercentEncoding ≡ e
    of_sign there = let byte : b ≡ percent = cc in sym (ap error_of byte) ∙ same

pub escape_there : (t : List ℕ) (e : PathError) → fault t ≡ Some e → (e ≡ InvalidPercentEncoding) ↔ (slice_get t (fault_offset t) ≡ Some percent)
escape_there t e h = escape_of_byte (slice_get t (fault_offset t)) e (sym (fault_there t) ∙ h)
