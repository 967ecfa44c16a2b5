-- One walk over a text that cuts it into segments at its slashes.
use Rattle.std.proofs.Common.{◌≡◌, ◌≢◌, ℕ, ◌+◌, ◌-◌, ◌<◌, ◌≤◌, true, false, List, [], ◌∷◌, ◌++◌, length, take, drop, get_or, sym, ap, subst, ◌∙◌}
use Rattle.std.proofs.Common.{inl, inr, arith, append_assoc, length-drop, length-append, Bool, cond, not, suc, refl, ◌&&◌}
use Rattle.std.specs.Prelude.{◌==◌}
use Rattle.std.specs.List.{prefix_len, position_or_len}
use Rattle.uriparse_text.specs.Bytes.{percent}
use Rattle.uriparse_text.specs.Cuts.{lacks}
use Rattle.uriparse_text.proofs.lemmas.readings.CutLemmas.{lacks-left, lacks-right}
use Rattle.std.specs.List.{All, list_all, slice_split}
use Rattle.std.specs.Int.{bit_at}
use Rattle.std.proofs.lemmas.Bool.{cases_lt, and_parts}
use Rattle.std.proofs.lemmas.List.{drop_more, get_or-drop, get_or-take, length-take, take-append-drop, drop-drop}
use Rattle.std.proofs.lemmas.List.Elements.{All-from_get_or}
use Rattle.std.proofs.lemmas.List.Folds.{list_all-append}
use Rattle.std.proofs.lemmas.List.Splits.{slice_split_none, slice_split_at}
use Rattle.std.proofs.lemmas.Nat.Bits.{bit_at-zero}
use Rattle.uriparse_text.specs.Marks.{AreMarks}
use Rattle.uriparse_text.proofs.lemmas.scans.MarkLemmas.{above_lowest, marked, unmarked}
use Rattle.uriparse_text.specs.Segment.{is_segment}
use Rattle.uriparse_path.specs.Path.{is_slash}

-- these segments are cut off, the next one begins at the start, and no slash is between that and the current place
pub record IsCutTo (t : List ℕ) (items : List (List ℕ)) (start reached : ℕ) : Type 0 where
  pub within : reached ≤ length t
  pub low : start ≤ reached
  pub whole : items ++ slice_split is_slash (drop start t) ≡ slice_split is_slash t
  pub none : (j : ℕ) → start ≤ j → j < reached → is_slash (get_or t j 0) ≡ false

-- of these bytes those after the start are slashes exactly if their bit is set
pub record IsCutRun (t : List ℕ) (items : List (List ℕ)) (start at n left : ℕ) : Type 0 where
  pub room : at + n ≤ length t
  pub high : start ≤ at + n
  pub whole : items ++ slice_split is_slash (drop start t) ≡ slice_split is_slash t
  pub none : (j : ℕ) → start ≤ j → j < at → is_slash (get_or t j 0) ≡ false
  pub passed : (k : ℕ) → start ≤ at + k → k < n → bit_at left k ≡ 0 → is_slash (get_or t (at + k) 0) ≡ false
  pub waiting : (k : ℕ) → bit_at left k ≡ 1 → (start ≤ at + k) × (k < n) × (is_slash (get_or t (at + k) 0) ≡ true)

pub run_begins : (t : List ℕ) (items : List (List ℕ)) (start at n left : ℕ) → IsCutTo t items start at → at + n ≤ length t → AreMarks is_slash t at n left
    → IsCutRun t items start at n left
run_begins t items start at n left is room are =
    let low = is.low in
    record {
      room = room;
      high = omega arith;
      whole = is.whole;
      none = is.none;
      passed = λ k _ h unset. unmarked is_slash t at n left are k h unset;
      waiting = λ k set. let w = marked is_slash t at n left are k set in (omega arith, w.0, w.1);
    }

one_of : (items : List (List ℕ)) (s : List ℕ) (ss : List (List ℕ)) → list_all is_segment (items ++ s ∷ ss) ≡ true → is_segment s ≡ true
one_of items s ss h =
    let later = (and_parts (list_all is_segment items) (list_all is_segment (s ∷ ss)) (sym (list_all-append is_segment items (s ∷ ss)) ∙ h)).1 in
    (and_parts (is_segment s) (list_all is_segment ss) later).0

fewer : (items : List (List ℕ)) (s : List ℕ) (ss all : List (List ℕ)) → items ++ s ∷ ss ≡ all → length items < length all
fewer items s ss all e = let whole = ap length e in let parts = length-append items (s ∷ ss) in omega arith

-- ---- a text without escapes

all_pass : (p : ℕ → Bool) (t : List ℕ) → prefix_len p t ≡ length t → list_all p t ≡ true
all_pass p [] h = refl
all_pass p (b ∷ t) h = by_first (p b) refl h (all_pass p t)
  where
    by_first : (v : Bool) → p b ≡ v → cond v (1 + prefix_len p t) 0 ≡ suc (length t) → (prefix_len p t ≡ length t → list_all p t ≡ true) → (v && list_all p t) ≡ true
    by_first true e k more = more (omega (arith, k))
    by_first false e k more = absurd (omega (arith, k))

pub none_found : (t : List ℕ) (i : ℕ) → i ≡ position_or_len (λ b. b == percent) t → i ≡ length t → lacks percent t ≡ true
none_found t i e k = all_pass (λ b. not (b == percent)) t (sym e ∙ k)

pub lacks_rest : (t : List ℕ) (start : ℕ) → lacks percent t ≡ true → lacks percent (drop start t) ≡ true
lacks_rest t start h = lacks-right percent (take start t) (drop start t) (ap (lacks percent) (take-append-drop start t) ∙ h)

pub lacks_piece : (t : List ℕ) (start len : ℕ) → lacks percent t ≡ true → lacks percent (take len (drop start t)) ≡ true
lacks_piece t start len h =
    lacks-left percent (take len (drop start t)) (drop len (drop start t)) (ap (lacks percent) (take-append-drop len (drop start t)) ∙ lacks_rest t start h)

module _ (t : List ℕ) (items : List (List ℕ)) (start at n left : ℕ) (is : IsCutRun t items start at n left) where
  -- no slash precedes a place below which no bit is set
  no_slash : (to : ℕ) → to ≤ n → ((k : ℕ) → k < to → bit_at left k ≡ 0) → (j : ℕ) → start ≤ j → j < at + to → is_slash (get_or t j 0) ≡ false
  no_slash to short unset j from before = elim (cases_lt j at) [
    | inl below ↦ is.none j from below
    | inr past ↦
        let offset : at + (j - at) ≡ j = omega arith in
        subst (λ i. is_slash (get_or t i 0) ≡ false) offset (is.passed (j - at) (omega arith) (omega arith) (unset (j - at) (omega arith)))
  ]

  pub run_ends : left ≡ 0 → IsCutTo t items start (at + n)
  run_ends none = record {
    within = is.room;
    low = is.high;
    whole = is.whole;
    none = no_slash n (omega arith) (λ k _. ap (λ m. bit_at m k) none ∙ bit_at-zero k);
  }

  module _ (k : ℕ) (set : bit_at left k ≡ 1) (below : (j : ℕ) → j < k → bit_at left j ≡ 0) where
    pub within_run : at + k < length t
    within_run = let w = is.waiting k set in let short = w.1 in let room = is.room in omega arith

    pub before_mark : start ≤ at + k
    before_mark = (is.waiting k set).0

    -- the piece up to the lowest mark
    abbrev pub piece : List ℕ
    piece = take (at + k - start) (drop start t)

    slashless : All (λ b. is_slash b ≡ false) piece
    slashless = All-from_get_or (λ b. is_slash b ≡ false) piece 0 (λ i h.
        let from = before_mark in
        let short : i < at + k - start = omega (arith, h, length-take (at + k - start) (drop start t)) in
        let w = is.waiting k set in
        let within = w.1 in
        ap is_slash (get_or-take (at + k - start) (drop start t) i 0 short ∙ get_or-drop start t i 0)
        ∙ no_slash k (omega arith) below (start + i) (omega arith) (omega arith))

    pieces : slice_split is_slash (drop start t) ≡ piece ∷ slice_split is_slash (drop (at + k + 1) t)
    pieces =
        let from = before_mark in
        let offset : start + (at + k - start) ≡ at + k = omega arith in
        let cut : drop start t ≡ piece ++ get_or t (at + k) 0 ∷ drop (at + k + 1) t =
        sym (take-append-drop (at + k - start) (drop start t))
        ∙ ap (λ r. piece ++ r) (drop-drop (at + k - start) start t ∙ ap (λ i. drop i t) offset ∙ drop_more t (at + k) 0 within_run) in
        ap (slice_split is_slash) cut ∙ slice_split_at is_slash piece (get_or t (at + k) 0) (drop (at + k + 1) t) slashless ((is.waiting k set).2)

    pub whole_with : items ++ piece ∷ slice_split is_slash (drop (at + k + 1) t) ≡ slice_split is_slash t
    whole_with = ap (λ ps. items ++ ps) (sym pieces) ∙ is.whole

    pub fewer_cut : length items < length (slice_split is_slash t)
    fewer_cut = fewer items piece (slice_split is_slash (drop (at + k + 1) t)) (slice_split is_slash t) whole_with

    pub piece_is_segment : list_all is_segment (slice_split is_slash t) ≡ true → is_segment piece ≡ true
    piece_is_segment each = one_of items piece (slice_split is_slash (drop (at + k + 1) t)) (ap (list_all is_segment) whole_with ∙ each)

    pub run_on : (next : ℕ) → ((j : ℕ) → j ≢ k → bit_at next j ≡ bit_at left j) → ((j : ℕ) → bit_at next j ≡ 1 → bit_at left j ≡ 1) → bit_at next k ≡ 0
        → IsCutRun t (items ++ piece ∷ []) (at + k + 1) at n next
    run_on next kept no_more cleared =
        let w = is.waiting k set in
        let from = w.0 in
        let short = w.1 in
        record {
          room = is.room;
          high = omega arith;
          whole = append_assoc items (piece ∷ []) (slice_split is_slash (drop (at + k + 1) t)) ∙ whole_with;
          none = λ j past before. absurd (omega arith);
          passed = λ j past h unset. is.passed j (omega arith) h (sym (kept j (λ same. omega arith)) ∙ unset);
          waiting = λ j e. let v = is.waiting j (no_more j e) in let past = above_lowest left next k below no_more cleared j e in (omega arith, v.1, v.2);
        }

-- at the end of the text the rest is the last segment
module _ (t : List ℕ) (items : List (List ℕ)) (start at : ℕ) (is : IsCutTo t items start at) (ends : length t ≤ at) where
  pub last_whole : items ++ drop start t ∷ [] ≡ slice_split is_slash t
  last_whole =
      let none : All (λ b. is_slash b ≡ false) (drop start t) = All-from_get_or (λ b. is_slash b ≡ false) (drop start t) 0 (λ i h.
      ap is_slash (get_or-drop start t i 0) ∙ is.none (start + i) (omega arith) (omega (arith, h, length-drop start t))) in
      ap (λ ps. items ++ ps) (sym (slice_split_none is_slash (drop start t) none)) ∙ is.whole

  pub last_fewer : length items < length (slice_split is_slash t)
  last_fewer = fewer items (drop start t) [] (slice_split is_slash t) last_whole

  pub last_is_segment : list_all is_segment (slice_split is_slash t) ≡ true → is_segment (drop start t) ≡ true
  last_is_segment each = one_of items (drop start t) [] (ap (list_all is_segment) last_whole ∙ each)
