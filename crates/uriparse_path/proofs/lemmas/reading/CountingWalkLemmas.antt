-- One walk over a text that counts its segments and finds its leftmost fault.
use Rattle.std.proofs.Common.{zero, suc, get_or, subst, ◌≡◌, ◌≢◌, ℕ, ◌+◌, ◌-◌, ◌<◌, ◌≤◌, true, false, List, [], ◌∷◌, length, drop}
use Rattle.std.proofs.Common.{Ok, Err, refl, sym, ap, ◌∙◌, arith}
use Rattle.std.specs.Prelude.{Result, not, ◌==◌, ◌&&◌, ◌||◌}
use Rattle.std.proofs.Common.{Bool, cond}
use Rattle.std.proofs.lemmas.Bool.{eqb-true, false≢true}
use Rattle.std.specs.List.{slice_split}
use Rattle.std.specs.Int.{bit_at}
use Rattle.std.proofs.lemmas.List.{drop_more}
use Rattle.std.proofs.lemmas.Nat.Bits.{bit_at-zero, bit_at-lt}
use Rattle.std.proofs.Common.{inl, inr, ◌%◌, ◌^◌, count_ones}
use Rattle.std.proofs.lemmas.Bool.{cases_lt}
use Rattle.uriparse_text.proofs.lemmas.scans.BitLemmas.{ones_none, ones_next, ones_below, ones_whole}
use Rattle.uriparse_text.specs.declared.internal.class.Class.TheVariants.{Segment}
use Rattle.uriparse_text.specs.Bytes.{slash, question_mark, number_sign, is_hex, is_unreserved, is_sub_delim}
use Rattle.uriparse_text.specs.Classes.{is_plain}
use Rattle.uriparse_text.specs.Tokens.{is_escape}
use Rattle.uriparse_text.specs.Marks.{AreMarks}
use Rattle.uriparse_text.proofs.lemmas.scans.MarkLemmas.{above_lowest}
use Rattle.uriparse_text.proofs.lemmas.tokens.TokenLemmas.{escape_at}
use Rattle.uriparse_text.proofs.lemmas.readings.CutLemmas.{other_byte}
use Rattle.uriparse_text.proofs.lemmas.classes.FaultBeforeMarkLemmas.{escape-up_to}
use Rattle.uriparse_text.proofs.lemmas.classes.FaultByByteLemmas.{unset_is_plain, set_is_outside}
use Rattle.uriparse_text.specs.Readings.{unless_fault}
use Rattle.uriparse_text.specs.declared.segment.error.PathError.{PathError}
use Rattle.uriparse_text.specs.declared.segment.error.PathError.TheVariants.{ExceededMaximumLength}
use Rattle.uriparse_text.specs.Segment.{error_of}
use Rattle.uriparse_path.specs.Path.{is_slash}
use Rattle.uriparse_path.specs.Faults.{fault_within, ends_path, path_front}
use Rattle.uriparse_path.proofs.lemmas.text.SplitLemmas.{pieces-slash}
use Rattle.uriparse_path.proofs.lemmas.reading.FaultLemmas.{SameFrom, after_plain, after_sign, after_slash, at_limit, faulty_byte, no_more}

-- what the walk returns for a whole text
abbrev pub answer : ℕ → List ℕ → Result (ℕ × ℕ) PathError
answer limit t = unless_fault (fault_within limit (slice_split is_slash t)) (length (slice_split is_slash t), length t)

-- this many segments have begun, and the rest of the text decides the rest
pub record IsCounted (limit : ℕ) (t : List ℕ) (count : ℕ) (rest : List ℕ) : Type 0 where
  pub some : 0 < count
  pub short : count ≤ limit
  pub counted : count + length (slice_split is_slash rest) ≡ 1 + length (slice_split is_slash t)
  pub same : fault_within (limit - count + 1) (slice_split is_slash rest) ≡ fault_within limit (slice_split is_slash t)

pub counted_start : (limit : ℕ) (t : List ℕ) → 0 < limit → IsCounted limit t 1 t
counted_start limit t h =
    let e : limit - 1 + 1 ≡ limit = omega arith in
    record { some = omega arith; short = omega arith; counted = refl; same = ap (λ n. fault_within n (slice_split is_slash t)) e }

counted_along : (limit : ℕ) (t : List ℕ) (count : ℕ) (rest after : List ℕ) → IsCounted limit t count rest → SameFrom (limit - count) rest after
    → IsCounted limit t count after
counted_along limit t count rest after is step = record {
  some = is.some;
  short = is.short;
  counted = omega (arith, is.counted, step.pieces);
  same = sym step.fault ∙ is.same;
}

pub counted_plain : (limit : ℕ) (t : List ℕ) (count b : ℕ) (after : List ℕ) → IsCounted limit t count (b ∷ after) → is_plain Segment b ≡ true
    → IsCounted limit t count after
counted_plain limit t count b after is plain =
    counted_along limit t count (b ∷ after) after is (after_plain (limit - count) b after plain)

pub counted_slash : (limit : ℕ) (t : List ℕ) (count b : ℕ) (after : List ℕ) → IsCounted limit t count (b ∷ after) → is_slash b ≡ true → count ≢ limit
    → IsCounted limit t (count + 1) after
counted_slash limit t count b after is e room =
    let long : length (slice_split is_slash (b ∷ after)) ≡ length (slice_split is_slash after) + 1 = rw (pieces-slash b after e) (omega arith) in
    let short : count + 1 ≤ limit = omega (arith, is.short, room) in
    let left : limit - count ≡ limit - (count + 1) + 1 = omega arith in
    record {
      some = omega arith;
      short = short;
      counted = omega (arith, is.counted, long);
      same = sym (after_slash (limit - (count + 1)) b after e) ∙ ap (λ n. fault_within (n + 1) (slice_split is_slash (b ∷ after))) (sym left) ∙ is.same;
    }

pub counted_full : (limit : ℕ) (t : List ℕ) (count b : ℕ) (after : List ℕ) → IsCounted limit t count (b ∷ after) → is_slash b ≡ true → count ≡ limit
    → Err ExceededMaximumLength ≡ answer limit t
counted_full limit t count b after is e full =
    let none_left : limit - count ≡ 0 = omega arith in
    ap (λ f. unless_fault f (length (slice_split is_slash t), length t)) (sym (at_limit b after e)
    ∙ ap (λ n. fault_within (n + 1) (slice_split is_slash (b ∷ after))) (sym none_left) ∙ is.same)

pub counted_fault : (limit : ℕ) (t : List ℕ) (count b : ℕ) (after : List ℕ) → IsCounted limit t count (b ∷ after) → is_plain Segment b ≡ false
    → is_slash b ≡ false → is_escape b after ≡ false → Err (error_of b) ≡ answer limit t
counted_fault limit t count b after is plain other never =
    ap (λ f. unless_fault f (length (slice_split is_slash t), length t)) (sym (faulty_byte (limit - count) b after plain other never) ∙ is.same)

pub counted_end : (limit : ℕ) (t : List ℕ) (count : ℕ) → IsCounted limit t count [] → Ok (count, length t) ≡ answer limit t
counted_end limit t count is =
    let all : count ≡ length (slice_split is_slash t) = omega (arith, is.counted) in
    ap (λ n. Ok (n, length t)) all ∙ ap (λ f. unless_fault f (length (slice_split is_slash t), length t)) (sym (no_more (limit - count)) ∙ is.same)

-- ---- by marks

pub counted_sign : (limit : ℕ) (t : List ℕ) (count b : ℕ) (after : List ℕ) → IsCounted limit t count (b ∷ after) → is_escape b after ≡ true
    → IsCounted limit t count after
counted_sign limit t count b after is escape =
    counted_along limit t count (b ∷ after) after is (after_sign (limit - count) b after escape)

-- ---- a byte with which the path goes on

abbrev stops : Bool → ℕ → Bool
stops ends b = ends && ends_path b

goes_on : (ends : Bool) (b : ℕ) → ends_path b ≡ false → stops ends b ≡ false
goes_on true b h = h
goes_on false b h = refl

plain_goes_on : (ends : Bool) (b : ℕ) → is_plain Segment b ≡ true → stops ends b ≡ false
unfolding is_plain is_unreserved is_sub_delim
plain_goes_on ends b plain =
    goes_on ends b (by_tests (b == question_mark) (b == number_sign)
    (other_byte (is_plain Segment) question_mark b refl plain) (other_byte (is_plain Segment) number_sign b refl plain))
  where
    by_tests : (v w : Bool) → not v ≡ true → not w ≡ true → (v || w) ≡ false
    by_tests true w h k = absurd (false≢true h)
    by_tests false true h k = absurd (false≢true k)
    by_tests false false h k = refl

pub slash_goes_on : (ends : Bool) (b : ℕ) → is_slash b ≡ true → stops ends b ≡ false
slash_goes_on ends b h = goes_on ends b (ap ends_path (eqb-true b slash h))

pub sign_goes_on : (ends : Bool) (b : ℕ) (after : List ℕ) → is_escape b after ≡ true → stops ends b ≡ false
sign_goes_on ends b after h = goes_on ends b (ap ends_path (escape_at b after h).sign)

no_digit_stops : (ends : Bool) (c : ℕ) → stops ends c ≡ true → is_hex c ≡ false
no_digit_stops true c h = by_tests (c == question_mark) refl (c == number_sign) refl h
  where
    by_tests : (v : Bool) → (c == question_mark) ≡ v → (w : Bool) → (c == number_sign) ≡ w → (v || w) ≡ true → is_hex c ≡ false
    by_tests true e w f k = ap is_hex (eqb-true c question_mark e)
    by_tests false e true f k = ap is_hex (eqb-true c number_sign f)
    by_tests false e false f k = absurd (false≢true k)
no_digit_stops false c h = absurd (false≢true h)

pub front_escape : (ends : Bool) (b : ℕ) (after : List ℕ) → is_escape b (path_front ends after) ≡ is_escape b after
front_escape ends b after = escape-up_to (stops ends) (no_digit_stops ends) b after

-- ---- as far as a place of the text

module _ (limit : ℕ) (ends : Bool) (t : List ℕ) where
  -- this many segments of the path that the text begins with have begun before this place
  pub record IsReached (count i : ℕ) : Type 0 where
    pub counted : IsCounted limit (path_front ends t) count (path_front ends (drop i t))
    pub long : length (path_front ends t) ≡ i + length (path_front ends (drop i t))

  pub reached_start : 0 < limit → IsReached 1 0
  reached_start h = record { counted = counted_start limit (path_front ends t) h; long = omega arith }

  opened : (i : ℕ) → i < length t → stops ends (get_or t i 0) ≡ false → path_front ends (drop i t) ≡ get_or t i 0 ∷ path_front ends (drop (i + 1) t)
  opened i within goes =
      ap (path_front ends) (drop_more t i 0 within) ∙ ap (λ v. cond v [] (get_or t i 0 ∷ path_front ends (drop (i + 1) t))) goes

  -- the byte there is one of the path
  pub reached_here : (count i : ℕ) → IsReached count i → i < length t → stops ends (get_or t i 0) ≡ false
      → IsCounted limit (path_front ends t) count (get_or t i 0 ∷ path_front ends (drop (i + 1) t))
  reached_here count i is within goes = subst (IsCounted limit (path_front ends t) count) (opened i within goes) is.counted

  pub reached_on : (count more i : ℕ) → IsReached count i → i < length t → stops ends (get_or t i 0) ≡ false
      → IsCounted limit (path_front ends t) more (path_front ends (drop (i + 1) t)) → IsReached more (i + 1)
  reached_on count more i is within goes counted =
      let longer : length (path_front ends (drop i t)) ≡ length (path_front ends (drop (i + 1) t)) + 1 = rw (opened i within goes) (omega arith) in
      record { counted = counted; long = omega (arith, is.long, longer) }

  -- or the path ends there
  pub reached_nothing : (count i : ℕ) → IsReached count i → path_front ends (drop i t) ≡ [] → Ok (count, i) ≡ answer limit (path_front ends t)
  reached_nothing count i is nothing =
      let long : i ≡ length (path_front ends t) = omega (arith, is.long, ap length nothing) in
      ap (λ n. Ok (count, n)) long
      ∙ counted_end limit (path_front ends t) count (subst (IsCounted limit (path_front ends t) count) nothing is.counted)

  pub reached_stop : (count i : ℕ) → IsReached count i → i < length t → stops ends (get_or t i 0) ≡ true → Ok (count, i) ≡ answer limit (path_front ends t)
  reached_stop count i is within stop =
      let nothing : path_front ends (drop i t) ≡ [] =
      ap (path_front ends) (drop_more t i 0 within) ∙ ap (λ v. cond v [] (get_or t i 0 ∷ path_front ends (drop (i + 1) t))) stop in
      reached_nothing count i is nothing

  reached_plain : (count i : ℕ) → IsReached count i → i < length t → is_plain Segment (get_or t i 0) ≡ true → IsReached count (i + 1)
  reached_plain count i is within plain =
      let goes = plain_goes_on ends (get_or t i 0) plain in
      reached_on count count i is within goes
      (counted_plain limit (path_front ends t) count (get_or t i 0) (path_front ends (drop (i + 1) t)) (reached_here count i is within goes) plain)

  reached_plains : (count i n : ℕ) → IsReached count i → i + n ≤ length t
      → ((j : ℕ) → i ≤ j → j < i + n → is_plain Segment (get_or t j 0) ≡ true) → IsReached count (i + n)
  reached_plains count i zero is room plain =
      let same : i ≡ i + 0 = omega arith in subst (IsReached count) same is
  reached_plains count i (suc n) is room plain =
      let before = reached_plains count i n is (omega arith) (λ j low high. plain j low (omega arith)) in
      let next : i + n + 1 ≡ i + suc n = omega arith in
      subst (IsReached count) next (reached_plain count (i + n) before (omega arith) (plain (i + n) (omega arith) (omega arith)))

  reached_up_to : (count i to : ℕ) → IsReached count i → i ≤ to → to ≤ length t
      → ((j : ℕ) → i ≤ j → j < to → is_plain Segment (get_or t j 0) ≡ true) → IsReached count to
  reached_up_to count i to is le room plain =
      let offset : i + (to - i) ≡ to = omega arith in
      subst (IsReached count) offset (reached_plains count i (to - i) is (omega arith) (λ j low high. plain j low (omega arith)))

  -- of these bytes those before some place are counted, and the others are plain if their bit is unset
  pub record IsRun (at n count left : ℕ) : Type 0 where
    pub here : ℕ
    pub room : at + n ≤ length t
    pub low : at ≤ here
    pub high : here ≤ at + n
    pub reached : IsReached count here
    pub passed : (k : ℕ) → here ≤ at + k → k < n → bit_at left k ≡ 0 → is_plain Segment (get_or t (at + k) 0) ≡ true
    pub waiting : (k : ℕ) → bit_at left k ≡ 1 → (here ≤ at + k) × (k < n) × (is_plain Segment (get_or t (at + k) 0) ≡ false)

  pub run_begins : (at n count left : ℕ) → at + n ≤ length t → IsReached count at → AreMarks (λ b. not (is_plain Segment b)) t at n left
      → IsRun at n count left
  run_begins at n count left room is are = record {
    here = at;
    room = room;
    low = omega arith;
    high = omega arith;
    reached = is;
    passed = λ k _ h unset. unset_is_plain Segment t at n left k are h unset;
    waiting = λ k set. let w = set_is_outside Segment t at n left k are set in (omega arith, w.0, w.1);
  }

  run_plain : (at n count left to : ℕ) → (is : IsRun at n count left) → to ≤ n → ((k : ℕ) → k < to → bit_at left k ≡ 0)
      → (j : ℕ) → is.here ≤ j → j < at + to → is_plain Segment (get_or t j 0) ≡ true
  run_plain at n count left to is short unset j from below =
      let low = is.low in
      let offset : at + (j - at) ≡ j = omega arith in
      subst (λ i. is_plain Segment (get_or t i 0) ≡ true) offset (is.passed (j - at) (omega arith) (omega arith) (unset (j - at) (omega arith)))

  pub run_within : (at n count left k : ℕ) → IsRun at n count left → bit_at left k ≡ 1 → at + k < length t
  run_within at n count left k is set = let short = (is.waiting k set).1 in let room = is.room in omega arith

  -- up to the lowest bit
  pub run_to : (at n count left k : ℕ) → IsRun at n count left → bit_at left k ≡ 1 → ((j : ℕ) → j < k → bit_at left j ≡ 0) → IsReached count (at + k)
  run_to at n count left k is set below =
      let w = is.waiting k set in
      let from = w.0 in
      let short = w.1 in
      let room = is.room in
      reached_up_to count is.here (at + k) is.reached from (omega arith) (run_plain at n count left k is (omega arith) below)

  pub run_on : (at n count more left k next : ℕ) → IsRun at n count left → bit_at left k ≡ 1 → ((j : ℕ) → j < k → bit_at left j ≡ 0)
      → ((j : ℕ) → j ≢ k → bit_at next j ≡ bit_at left j) → ((j : ℕ) → bit_at next j ≡ 1 → bit_at left j ≡ 1) → bit_at next k ≡ 0
      → IsReached more (at + k + 1) → IsRun at n more next
  run_on at n count more left k next is set below kept no_more cleared reached =
      let w = is.waiting k set in
      let from = w.0 in
      let short = w.1 in
      record {
        here = at + k + 1;
        room = is.room;
        low = omega arith;
        high = omega arith;
        reached = reached;
        passed = λ j past h unset. is.passed j (omega arith) h (sym (kept j (λ same. omega arith)) ∙ unset);
        waiting = λ j e. let v = is.waiting j (no_more j e) in let past = above_lowest left next k below no_more cleared j e in (omega arith, v.1, v.2);
      }

  pub run_ends : (at n count left : ℕ) → IsRun at n count left → left ≡ 0 → IsReached count (at + n)
  run_ends at n count left is none =
      reached_up_to count is.here (at + n) is.reached is.high is.room
      (run_plain at n count left n is (omega arith) (λ k _. ap (λ m. bit_at m k) none ∙ bit_at-zero k))

  -- ---- the slashes of several bytes counted at once

  -- of these bytes the slashes have their bit set, and all are within the limit
  pub record AreSlashes (at n slashes count : ℕ) : Type 0 where
    pub room : at + n ≤ length t
    pub marks : AreMarks is_slash t at n slashes
    pub fits : count + count_ones slashes ≤ limit

  -- as far as byte j of them
  abbrev pub IsSwept : ℕ → ℕ → ℕ → ℕ → Type 0
  IsSwept at slashes count j = IsReached (count + count_ones (slashes % 2 ^ j)) (at + j)

  set_is_slash : (at n slashes count j : ℕ) → AreSlashes at n slashes count → j < n → is_slash (get_or t (at + j) 0) ≡ true → bit_at slashes j ≡ 1
  set_is_slash at n slashes count j are h is = are.marks.0 j h ∙ ap (λ v. cond v 1 0) is

  unset_is_other : (at n slashes count j : ℕ) → AreSlashes at n slashes count → j < n → is_slash (get_or t (at + j) 0) ≡ false → bit_at slashes j ≡ 0
  unset_is_other at n slashes count j are h is = are.marks.0 j h ∙ ap (λ v. cond v 1 0) is

  swept_same : (at n slashes count j : ℕ) → AreSlashes at n slashes count → j < n → is_slash (get_or t (at + j) 0) ≡ false
      → IsReached (count + count_ones (slashes % 2 ^ j)) (at + j + 1) → IsSwept at slashes count (j + 1)
  swept_same at n slashes count j are h other reached =
      let next = ones_next slashes j in
      let unset = unset_is_other at n slashes count j are h other in
      let same : count + count_ones (slashes % 2 ^ j) ≡ count + count_ones (slashes % 2 ^ (j + 1)) = omega (arith, next, unset) in
      let offset : at + j + 1 ≡ at + (j + 1) = omega arith in
      subst (IsReached (count + count_ones (slashes % 2 ^ (j + 1)))) offset (subst (λ c. IsReached c (at + j + 1)) same reached)

  swept_next : (at n slashes count j : ℕ) → AreSlashes at n slashes count → j < n
      → (bit_at slashes j ≡ 0 → is_plain Segment (get_or t (at + j) 0) ≡ true) → IsSwept at slashes count j → IsSwept at slashes count (j + 1)
  swept_next at n slashes count j are h plain is = by_test (is_slash (get_or t (at + j) 0)) refl
    where
      by_test : (v : Bool) → is_slash (get_or t (at + j) 0) ≡ v → IsSwept at slashes count (j + 1)
      by_test true e =
          let b = get_or t (at + j) 0 in
          let so_far = count + count_ones (slashes % 2 ^ j) in
          let next = ones_next slashes j in
          let set = set_is_slash at n slashes count j are h e in
          let room = are.room in
          let below = ones_below slashes (j + 1) in
          let fits = are.fits in
          let free : so_far ≢ limit = λ full. omega (arith, next, set, below, fits, full) in
          let goes = slash_goes_on ends b e in
          let within : at + j < length t = omega arith in
          let here = reached_here so_far (at + j) is within goes in
          let reached = reached_on so_far (so_far + 1) (at + j) is within goes
          (counted_slash limit (path_front ends t) so_far b (path_front ends (drop (at + j + 1) t)) here e free) in
          let same : so_far + 1 ≡ count + count_ones (slashes % 2 ^ (j + 1)) = omega (arith, next, set) in
          let offset : at + j + 1 ≡ at + (j + 1) = omega arith in
          subst (IsReached (count + count_ones (slashes % 2 ^ (j + 1)))) offset (subst (λ c. IsReached c (at + j + 1)) same reached)
      by_test false e =
          let room = are.room in
          swept_same at n slashes count j are h e
          (reached_plain (count + count_ones (slashes % 2 ^ j)) (at + j) is (omega arith) (plain (unset_is_other at n slashes count j are h e)))

  swept_more : (at n slashes count from d : ℕ) → AreSlashes at n slashes count → from + d ≤ n
      → ((j : ℕ) → from ≤ j → j < from + d → bit_at slashes j ≡ 0 → is_plain Segment (get_or t (at + j) 0) ≡ true)
      → IsSwept at slashes count from → IsSwept at slashes count (from + d)
  swept_more at n slashes count from zero are h plain is =
      let same : from ≡ from + 0 = omega arith in subst (IsSwept at slashes count) same is
  swept_more at n slashes count from (suc d) are h plain is =
      let before = swept_more at n slashes count from d are (omega arith) (λ j low high. plain j low (omega arith)) is in
      let offset : from + d + 1 ≡ from + suc d = omega arith in
      subst (IsSwept at slashes count) offset (swept_next at n slashes count (from + d) are (omega arith) (plain (from + d) (omega arith) (omega arith)) before)

  swept_up_to : (at n slashes count from to : ℕ) → AreSlashes at n slashes count → from ≤ to → to ≤ n
      → ((j : ℕ) → from ≤ j → j < to → bit_at slashes j ≡ 0 → is_plain Segment (get_or t (at + j) 0) ≡ true)
      → IsSwept at slashes count from → IsSwept at slashes count to
  swept_up_to at n slashes count from to are le h plain is =
      let offset : from + (to - from) ≡ to = omega arith in
      subst (IsSwept at slashes count) offset
      (swept_more at n slashes count from (to - from) are (omega arith) (λ j low high. plain j low (omega arith)) is)

  -- those before some place are swept, and the others are plain if neither mask has their bit
  pub record IsSweep (at n slashes count left : ℕ) : Type 0 where
    pub are : AreSlashes at n slashes count
    pub here : ℕ
    pub high : here ≤ n
    pub swept : IsSwept at slashes count here
    pub passed : (k : ℕ) → here ≤ k → k < n → bit_at left k ≡ 0 → bit_at slashes k ≡ 0 → is_plain Segment (get_or t (at + k) 0) ≡ true
    pub waiting : (k : ℕ) → bit_at left k ≡ 1
        → (here ≤ k) × (k < n) × (is_plain Segment (get_or t (at + k) 0) ≡ false) × (is_slash (get_or t (at + k) 0) ≡ false)

  not_slash : (v : Bool) → ◌≡◌ {A = ℕ} (cond v 1 0) 0 → v ≡ false
  not_slash true h = absurd (omega (arith, h))
  not_slash false h = refl

  pub sweep_begins : (at n slashes count marks left : ℕ) → AreSlashes at n slashes count → n ≤ 64 → IsReached count at
      → AreMarks (λ b. not (is_plain Segment b)) t at n marks
      → ((k : ℕ) → bit_at left k ≡ 1 → (bit_at marks k ≡ 1) × (bit_at slashes k ≡ 0))
      → ((k : ℕ) → k < 64 → bit_at left k ≡ 0 → bit_at marks k ≡ 1 → bit_at slashes k ≡ 1) → IsSweep at n slashes count left
  sweep_begins at n slashes count marks left are few is outs no_more gone =
      let none : count ≡ count + count_ones (slashes % 2 ^ 0) = omega (arith, ones_none slashes) in
      let offset : at ≡ at + 0 = omega arith in
      record {
        are = are;
        here = 0;
        high = omega arith;
        swept = subst (IsReached (count + count_ones (slashes % 2 ^ 0))) offset (subst (λ c. IsReached c at) none is);
        passed = λ k _ h unset other.
            unset_is_plain Segment t at n marks k outs h (unmarked k h unset other);
        waiting = λ k set.
            let both = no_more k set in
            let w = set_is_outside Segment t at n marks k outs both.0 in
            (omega arith, w.0, w.1, not_slash (is_slash (get_or t (at + k) 0)) (sym (are.marks.0 k w.0) ∙ both.1));
      }
    where
      unmarked : (k : ℕ) → k < n → bit_at left k ≡ 0 → bit_at slashes k ≡ 0 → bit_at marks k ≡ 0
      unmarked k h unset other = elim (cases_lt (bit_at marks k) 1) [
        | inl none ↦ omega (arith, none)
        | inr some ↦ absurd (
            let one : bit_at marks k ≡ 1 = omega (arith, some, bit_at-lt marks k) in
            omega (arith, gone k (omega arith) unset one, other))
      ]

  pub sweep_within : (at n slashes count left k : ℕ) → IsSweep at n slashes count left → bit_at left k ≡ 1 → at + k < length t
  sweep_within at n slashes count left k is set = let short = (is.waiting k set).1 in let room = is.are.room in omega arith

  -- up to the lowest bit
  pub sweep_to : (at n slashes count left k : ℕ) → IsSweep at n slashes count left → bit_at left k ≡ 1 → ((j : ℕ) → j < k → bit_at left j ≡ 0)
      → IsSwept at slashes count k
  sweep_to at n slashes count left k is set below =
      let w = is.waiting k set in
      swept_up_to at n slashes count is.here k is.are w.0 (omega (arith, w.1))
      (λ j low high other. is.passed j low (omega (arith, high, w.1)) (below j high) other) is.swept

  pub sweep_on : (at n slashes count left k next : ℕ) → IsSweep at n slashes count left → bit_at left k ≡ 1 → ((j : ℕ) → j < k → bit_at left j ≡ 0)
      → ((j : ℕ) → j ≢ k → bit_at next j ≡ bit_at left j) → ((j : ℕ) → bit_at next j ≡ 1 → bit_at left j ≡ 1) → bit_at next k ≡ 0
      → IsReached (count + count_ones (slashes % 2 ^ k)) (at + k + 1) → IsSweep at n slashes count next
  sweep_on at n slashes count left k next is set below kept no_more cleared reached =
      let w = is.waiting k set in
      let short = w.1 in
      record {
        are = is.are;
        here = k + 1;
        high = omega arith;
        swept = swept_same at n slashes count k is.are short w.3 reached;
        passed = λ j past h unset other. is.passed j (omega (arith, w.0, past)) h (sym (kept j (λ same. omega (arith, past, same))) ∙ unset) other;
        waiting = λ j e.
            let v = is.waiting j (no_more j e) in
            let past = above_lowest left next k below no_more cleared j e in
            (omega (arith, past), v.1, v.2, v.3);
      }

  pub sweep_ends : (at n slashes count left : ℕ) → IsSweep at n slashes count left → left ≡ 0
      → IsReached (count + count_ones slashes) (at + n)
  sweep_ends at n slashes count left is none =
      subst (λ c. IsReached (count + c) (at + n)) (ones_whole slashes n is.are.marks.1)
      (swept_up_to at n slashes count is.here n is.are is.high (omega arith)
      (λ j low high other. is.passed j low high (ap (λ m. bit_at m j) none ∙ bit_at-zero j) other) is.swept)
