-- What is written for lines.
use Rattle.std.proofs.Common.{◌≡◌, ◌==◌, ℕ, ◌-◌, ◌<◌, ◌≤◌, Bool, true, false, List, [], ◌∷◌, ◌++◌, Option, Some, None, Result, Ok, Err, IfSome, IfOk, cond, length, take, drop, refl, sym, ap, subst, ◌∙◌, arith, append_assoc, append-nil, eq-eqb, ne_eqb, take_all, take-append-drop, replicate, inl, inr, suc, ◌≢◌, ◌⊎◌}
use Rattle.std.specs.Prelude.{IsErrAnd, OnErr}
use Rattle.std.specs.Io.KnownBytes.{Appends, IsAtEnd, Keeps, prepend_known}
use Rattle.std.specs.Io.Buffered.{reader_buffer, reader_capacity, reader_inner, reader_remaining}
use Rattle.std.specs.declared.io.buffered.BufReader.{BufReader}
use Rattle.std.specs.Io.BufRead.{DropsThrough, drop_through, ends_with_byte, first_piece, strip_last, take_through}
use Rattle.std.specs.List.{onto_first}
use Rattle.std.proofs.KnownBytes.{Appends-nil, Appends-trans, Appends-kept, prepend_known-nil}
use Rattle.std.proofs.Math.Seq.{take-append_seam}
use Rattle.std.proofs.lemmas.List.{drop_all, length-drop}
use Rattle.uriparse_text.specs.Cuts.{before, from_first}
use Rattle.uriparse_text.proofs.lemmas.readings.CutLemmas.{cut-whole}
use Rattle.uri_commands.specs.Columns.{IsRow, tab}
use Rattle.uri_commands.specs.Lines.{lines_of, newline}
use Rattle.uri_commands.specs.Output.{Answer, AnswersLine, Does, EndsWork, Negative, Printed, Rejected, Unknown, answer_of}
use Rattle.uri_commands.specs.Outputs.{Gives, IsWork, Outputs, Prints, Puts, PutsOrStops, PutsSome, Runs, RunsOrStops, Sends, Stops, Writes, ended, fields, first_line, outcome_of, printed, status_of, worse}
use Rattle.uri_commands.specs.declared.columns.Columns.{Columns}
use Rattle.uri_commands.specs.declared.commands.Task.{Task}
use Rattle.uri_commands.specs.declared.failure.Failure.{Failure}
use Rattle.uri_commands.specs.declared.failure.Failure.TheVariants as failures
use Rattle.uri_commands.specs.declared.lines.Outcome.{Outcome}
use Rattle.uri_commands.specs.declared.lines.Outcome.TheVariants as outcomes
use Rattle.uri_commands.specs.declared.lines.Work.{Work}
use Rattle.uri_commands.proofs.LineLemmas.{is_last}
use Rattle.uri_commands.proofs.OutputLemmas.{Known}

-- ---- one line

-- the outcome is an answer's, and the buffer has what it prints
abbrev pub Did : (Answer → Type 0) → List ℕ → Outcome → Type 0
Did Is new outcome = (a : Answer) × Is a × (outcome ≡ outcome_of a) × (new ≡ printed a)

pub did_print : (Is : Answer → Type 0) (old new : List ℕ) (r : Result (Unit {0}) Failure) (u : Unit {0}) → r ≡ Ok u → old ≡ []
    → Does Is (Some old) (Some new) r
    → Did Is new outcomes.Done
did_print Is old new r u e none h =
    let d = subst (Does Is (Some old) (Some new)) e h in
    (Printed d.0, d.1, refl, d.2 ∙ ap (λ t. t ++ d.0) none)

prints_nothing : (f : Failure) → printed (answer_of f) ≡ []
prints_nothing failures.Usage = refl
prints_nothing (failures.Reference e) = refl
prints_nothing (failures.Uri e) = refl
prints_nothing (failures.Edit i e) = refl
prints_nothing (failures.Query e) = refl
prints_nothing (failures.File e) = refl
prints_nothing failures.NoTab = refl
prints_nothing failures.TooFewFields = refl
prints_nothing failures.Absent = refl
prints_nothing failures.Different = refl
prints_nothing failures.Outside = refl
prints_nothing (failures.Memory e) = refl
prints_nothing (failures.MemoryAtLine n) = refl
prints_nothing (failures.Input e) = refl
prints_nothing (failures.Output e) = refl

did_answer : (Is : Answer → Type 0) (old new : List ℕ) (f : Failure) (o : Outcome) → (EndsWork f → ⊥) → o ≡ outcome_of (answer_of f)
    → old ≡ []
    → EndsWork f ⊎ (Is (answer_of f) × (Some new ≡ Some old)) → Did Is new o
did_answer Is old new f o goes_on is none (inl ends) = absurd (goes_on ends)
did_answer Is old new f o goes_on is none (inr given) =
    let same = given.1 in
    let kept : new ≡ old = cc in
    (answer_of f, given.0, is, kept ∙ none ∙ sym (prints_nothing f))

pub did_fail : (Is : Answer → Type 0) (old new : List ℕ) (r : Result (Unit {0}) Failure) (f : Failure) (o : Outcome) → r ≡ Err f → old ≡ []
    → Does Is (Some old) (Some new) r → (EndsWork f → ⊥) → o ≡ outcome_of (answer_of f) → Did Is new o
did_fail Is old new r f o e none h goes_on is = did_answer Is old new f o goes_on is none (subst (Does Is (Some old) (Some new)) e h)

-- ---- lines that end with a byte

pub ended_none : (end : ℕ) (t : List ℕ) → length t ≡ 0 → t ≡ ended end t
ended_none end [] h = refl
ended_none end (b ∷ t) h = absurd (omega (arith, h))

ended_some : (end : ℕ) (t : List ℕ) → 0 < length t → first_line end t ++ end ∷ [] ≡ ended end t
ended_some end [] h = absurd (omega (arith, h))
ended_some end (b ∷ t) h = refl

-- a text begins with its first line
first_taken : (end : ℕ) (t : List ℕ) → take (length (first_line end t)) t ≡ first_line end t
first_taken end t =
    let line = first_line end t in
    let rest = from_first (λ b. b == end) (before newline t) ++ from_first (λ b. b == newline) t in
    let whole : t ≡ line ++ rest =
    sym (ap (λ u. u ++ from_first (λ b. b == newline) t) (cut-whole (λ b. b == end) (before newline t)) ∙ cut-whole (λ b. b == newline) t)
    ∙ append_assoc line (from_first (λ b. b == end) (before newline t)) (from_first (λ b. b == newline) t) in
    ap (take (length line)) whole ∙ take-append_seam line rest

pub ended_cut : (end count : ℕ) (t line : List ℕ) → 0 < length t → line ≡ first_line end t → count ≡ length line
    → take count t ++ end ∷ [] ≡ ended end t
ended_cut end count t line some is long =
    ap (λ u. u ++ end ∷ []) (ap (λ n. take n t) (long ∙ ap length is) ∙ first_taken end t) ∙ ended_some end t some

-- ---- the first line

-- a line of one more byte
longer : (end b c : ℕ) (t : List ℕ) → strip_last end (b ∷ c ∷ t) ≡ b ∷ strip_last end (c ∷ t)
longer end b c t =
    let same : ends_with_byte end (b ∷ c ∷ t) ≡ ends_with_byte end (c ∷ t) =
    is_last end b (c ∷ t) (length (c ∷ t)) refl ∙ sym (is_last end c t (length t) refl) in
    ap (λ v. cond v (take (length (b ∷ c ∷ t) - 1) (b ∷ c ∷ t)) (b ∷ c ∷ t)) same ∙ at (ends_with_byte end (c ∷ t))
  where
    at : (v : Bool)
        → cond v (take (length (b ∷ c ∷ t) - 1) (b ∷ c ∷ t)) (b ∷ c ∷ t) ≡ b ∷ cond v (take (length (c ∷ t) - 1) (c ∷ t)) (c ∷ t)
    at true =
        let more : length (b ∷ c ∷ t) - 1 ≡ suc (length t) = omega arith in
        let less : length (c ∷ t) - 1 ≡ length t = omega arith in
        ap (λ n. take n (b ∷ c ∷ t)) more ∙ sym (ap (λ n. b ∷ take n (c ∷ t)) less)
    at false = refl

longer_through : (end b c : ℕ) (t : List ℕ) (v : Bool)
    → strip_last end (b ∷ cond v (c ∷ []) (c ∷ t)) ≡ b ∷ strip_last end (cond v (c ∷ []) (c ∷ t))
longer_through end b c t true = longer end b c []
longer_through end b c t false = longer end b c t

-- a line of one byte
one_byte : (end b : ℕ) (v : Bool) → v ≡ (b == end) → cond v [] (b ∷ []) ≡ strip_last end (b ∷ [])
one_byte end b v is = ap (λ w. cond w [] (b ∷ [])) (is ∙ sym (is_last end b [] 0 refl))

first_of_one : (end b : ℕ) (v : Bool) → v ≡ (b == end)
    → cond v ([] ∷ []) (onto_first b []) ≡ strip_last end (cond v (b ∷ []) (b ∷ [])) ∷ lines_of end (cond v [] [])
first_of_one end b true is = ap (λ l. l ∷ []) (one_byte end b true is)
first_of_one end b false is = ap (λ l. l ∷ []) (one_byte end b false is)

first_of_more : (end b c : ℕ) (t : List ℕ) (v : Bool) → v ≡ (b == end)
    → lines_of end (c ∷ t) ≡ first_piece end (c ∷ t) ∷ lines_of end (drop_through end (c ∷ t))
    → cond v ([] ∷ lines_of end (c ∷ t)) (onto_first b (lines_of end (c ∷ t)))
    ≡ strip_last end (cond v (b ∷ []) (b ∷ take_through end (c ∷ t))) ∷ lines_of end (cond v (c ∷ t) (drop_through end (c ∷ t)))
first_of_more end b c t true is later = ap (λ l. l ∷ lines_of end (c ∷ t)) (one_byte end b true is)
first_of_more end b c t false is later =
    ap (onto_first b) later
    ∙ ap (λ l. l ∷ lines_of end (drop_through end (c ∷ t))) (sym (longer_through end b c (take_through end t) (c == end)))

-- the lines are the first piece, and the lines of what follows it
pub first_of : (end : ℕ) (bytes : List ℕ) → 0 < length bytes
    → lines_of end bytes ≡ first_piece end bytes ∷ lines_of end (drop_through end bytes)
first_of end [] some = absurd (omega (arith, some))
first_of end (b ∷ []) some = first_of_one end b (b == end) refl
first_of end (b ∷ c ∷ t) some = first_of_more end b c t (b == end) refl (first_of end (c ∷ t) (omega arith))

-- ---- outcomes

worse_done : (a : Outcome) → worse a outcomes.Done ≡ a
worse_done outcomes.Done = refl
worse_done outcomes.Different = refl
worse_done outcomes.Rejected = refl

worse_assoc : (a b c : Outcome) → worse (worse a b) c ≡ worse a (worse b c)
worse_assoc outcomes.Done b c = refl
worse_assoc outcomes.Rejected b c = refl
worse_assoc outcomes.Different outcomes.Done c = refl
worse_assoc outcomes.Different outcomes.Rejected c = refl
worse_assoc outcomes.Different outcomes.Different outcomes.Done = refl
worse_assoc outcomes.Different outcomes.Different outcomes.Different = refl
worse_assoc outcomes.Different outcomes.Different outcomes.Rejected = refl

-- ---- what is printed for a line

-- what is in a buffer that was empty
pub after_clear : (old new bytes : List ℕ) → old ≡ [] → new ≡ old ++ bytes → new ≡ bytes
after_clear old new bytes none is = is ∙ ap (λ t. t ++ bytes) none

pub prints_plain : (work : Work) (line out : List ℕ) (outcome : Outcome) → work.end ≡ newline
    → ((a : Answer) × AnswersLine work.task line a × (outcome ≡ outcome_of a) × (out ≡ printed a)) → Prints work line out outcome
prints_plain work line out outcome is did = record {
  answer = did.0;
  is = did.1;
  outcome_is = did.2;
  out_is = did.3 ∙ sym (ap (λ v. cond v (printed did.0) (ended work.end (printed did.0))) (eq-eqb work.end newline is));
}

pub prints_ended : (work : Work) (line old out : List ℕ) (outcome : Outcome) → work.end ≢ newline
    → ((a : Answer) × AnswersLine work.task line a × (outcome ≡ outcome_of a) × (old ≡ printed a)) → out ≡ ended work.end old
    → Prints work line out outcome
prints_ended work line old out outcome other did is = record {
  answer = did.0;
  is = did.1;
  outcome_is = did.2;
  out_is =
      is ∙ ap (ended work.end) did.3
      ∙ sym (ap (λ v. cond v (printed did.0) (ended work.end (printed did.0))) (ne_eqb work.end newline other));
}

-- the same of a result
pub wrote_plain : (work : Work) (line out : List ℕ) (r : Result Outcome Failure) → work.columns ≡ None
    → IfOk r (λ o. Prints work line out o)
    → IfOk r (λ o. Writes work.columns work line out o)
wrote_plain work line out (Ok o) none did = subst (λ c. Writes c work line out o) (sym none) did
wrote_plain work line out (Err f) none did = tt

pub wrote_row : (work : Work) (columns : Columns) (line out : List ℕ) (r : Result Outcome Failure) → work.columns ≡ Some columns
    → IfOk r (λ o. (row : List ℕ) × IsRow (Gives work) work.end columns.first work.width columns.appends line row o
    × (out ≡ row ++ work.end ∷ []))
    → IfOk r (λ o. Writes work.columns work line out o)
wrote_row work columns line out (Ok o) some did =
    subst (λ c. Writes c work line out o) (sym some) (record { row = did.0; is = did.1; out_is = did.2 })
wrote_row work columns line out (Err f) some did = tt

-- ---- empty fields

abbrev IsRejected : Outcome → Type 0
IsRejected outcomes.Done = ⊥
IsRejected outcomes.Different = ⊥
IsRejected outcomes.Rejected = Unit {0}

rejected_fields : (count : ℕ) (a : Answer) → IsRejected (outcome_of a) → fields count a ≡ replicate (count - 1) tab
rejected_fields count (Printed bytes) h = absurd h
rejected_fields count Negative h = absurd h
rejected_fields count Rejected h = refl
rejected_fields count Unknown h = refl

-- what a buffer that is cleared and filled with tabs has
pub empty_fields : (count n len : ℕ) (old new : List ℕ) (o : Outcome) (a : Answer) → n ≡ count - 1 → len ≡ 0 → old ≡ []
    → new ≡ take n old ++ replicate (n - len) tab → o ≡ outcomes.Rejected → o ≡ outcome_of a → new ≡ fields count a
empty_fields count n len old new o a less none empty filled rejected is =
    let front : take n old ≡ [] = ap (take n) empty ∙ take_all n [] (omega arith) in
    let many : n - len ≡ count - 1 = omega (arith, less, none) in
    filled ∙ ap (λ t. t ++ replicate (n - len) tab) front ∙ ap (λ k. replicate k tab) many
    ∙ sym (rejected_fields count a (subst IsRejected (sym rejected ∙ is) tt))

-- ---- what is written for lines

-- one line more
one_more : (work : Work) (lines : List (List ℕ)) (line out more : List ℕ) (worst here : Outcome) → Outputs work lines out worst
    → Writes work.columns work line more here → Outputs work (lines ++ line ∷ []) (out ++ more) (worse worst here)
one_more work [] line out more worst here o w = (
  more,
  [],
  here,
  outcomes.Done,
  w,
  (refl, refl),
  ap (λ t. t ++ more) o.0 ∙ sym (append-nil more),
  ap (λ a. worse a here) o.1 ∙ sym (worse_done here),
)
one_more work (l ∷ lines) line out more worst here o w = (
  o.0,
  o.1 ++ more,
  o.2,
  worse o.3 here,
  o.4,
  one_more work lines line o.1 more o.3 here o.5 w,
  ap (λ t. t ++ more) o.6 ∙ append_assoc o.0 o.1 more,
  ap (λ a. worse a here) o.7 ∙ worse_assoc o.2 o.3 here,
)

-- ---- pending output

pub took_none : (a b : Known) (bytes : List ℕ) → Keeps a b → Appends a b (take 0 bytes)
took_none None b bytes keeps = tt
took_none (Some x) None bytes keeps = absurd keeps
took_none (Some x) (Some y) bytes keeps = keeps ∙ sym (append-nil x)

pub kept_none : (a b : Known) (bytes : List ℕ) (n : ℕ) → n ≡ 0 → Appends a b (take n bytes) → Keeps a b
kept_none a b bytes n none took = by_known a b (subst (λ k. Appends a b (take k bytes)) none took)
  where
    by_known : (a b : Known) → Appends a b [] → Keeps a b
    by_known None b p = tt
    by_known (Some x) None p = absurd p
    by_known (Some x) (Some y) p = p ∙ append-nil x

pub sends_none : (a : Known) (p : List ℕ) → Sends a a p p []
sends_none a p = record { sent = []; written = Appends-nil a; whole = append-nil p }

pub sends_front : (a b c : Known) (p q t r : List ℕ) (n : ℕ) → Sends a b p q [] → t ≡ q → Appends b c (take n t) → r ≡ drop n q
    → Sends a c p r []
sends_front a b c p q t r n s same written left = record {
  sent = s.sent ++ take n q;
  written = Appends-trans a b c s.sent (take n q) s.written (subst (λ l. Appends b c (take n l)) same written);
  whole =
      s.whole ∙ ap (λ l. s.sent ++ l) (sym (take-append-drop n q) ∙ ap (λ l. take n q ++ l) (sym left))
      ∙ sym (append_assoc s.sent (take n q) r);
}

pub sends_whole : (a b c : Known) (p q t r : List ℕ) (n : ℕ) → Sends a b p q [] → t ≡ q → Appends b c (take n t) → n ≡ length q → r ≡ []
    → Sends a c p r []
sends_whole a b c p q t r n s same written all none =
    sends_front a b c p q t r n s same written (none ∙ sym (ap (λ k. drop k q) all ∙ drop_all (length q) q (omega arith)))

-- so many bytes are taken, but not all
pub left_some : (n : ℕ) (q t r : List ℕ) → n ≤ length t → t ≡ q → n ≢ length q → r ≡ drop n q → 0 < length r
left_some n q t r bound same other left = omega (arith, bound, ap length same, other, ap length left, length-drop n q)

pub sends_kept : (a b c : Known) (p q x : List ℕ) → Sends a b p q x → Keeps b c → Sends a c p q x
sends_kept a b c p q x s keeps = record { sent = s.sent; written = Appends-kept a b c s.sent s.written keeps; whole = s.whole }

pub sends_more : (a b : Known) (p q r x : List ℕ) → Sends a b p q [] → r ≡ q ++ x → Sends a b p r x
sends_more a b p q r x s more = record {
  sent = s.sent;
  written = s.written;
  whole =
      ap (λ t. t ++ x) (sym (append-nil p) ∙ s.whole) ∙ append_assoc s.sent q x
      ∙ ap (λ t. s.sent ++ t) (sym more);
}

pub sends_same : (a b : Known) (p q r x : List ℕ) → Sends a b p q x → r ≡ q → Sends a b p r x
sends_same a b p q r x s same = subst (λ t. Sends a b p t x) (sym same) s

pub sends_trans : (a b c : Known) (p q r x y : List ℕ) → Sends a b p q x → Sends b c q r y → Sends a c p r (x ++ y)
sends_trans a b c p q r x y s t = record {
  sent = s.sent ++ t.sent;
  written = Appends-trans a b c s.sent t.sent s.written t.written;
  whole =
      sym (append_assoc p x y) ∙ ap (λ l. l ++ y) s.whole ∙ append_assoc s.sent q y ∙ ap (λ l. s.sent ++ l) t.whole
      ∙ sym (append_assoc s.sent t.sent r);
}

pub sends_on : (a b c : Known) (p q r x : List ℕ) → Sends a b p q x → Sends b c q r [] → Sends a c p r x
sends_on a b c p q r x s t = subst (Sends a c p r) (append-nil x) (sends_trans a b c p q r x [] s t)

pub sends_then : (a b c : Known) (p q r x : List ℕ) → Sends a b p q [] → Sends b c q r x → Sends a c p r x
sends_then a b c p q r x s t = sends_trans a b c p q r [] x s t

-- what is sent where nothing was pending before, and nothing is left
all_sent : (a b : Known) (x : List ℕ) → Sends a b [] [] x → Appends a b x
all_sent a b x s = subst (Appends a b) (sym (s.whole ∙ append-nil s.sent)) s.written

-- what is put for the lines of an input of which this is left
pub record Progress (work : Work) (bytes left : List ℕ) (old new : Known) (before after : List ℕ) (worst : Outcome) : Type 0 where
  pub lines : List (List ℕ)
  pub split : lines_of work.end bytes ≡ lines ++ lines_of work.end left
  pub puts : Puts work lines old new before after worst

-- the same where the input's bytes are known
abbrev pub Goes : Work → Known → Known → Known → Known → List ℕ → List ℕ → Outcome → Type 0
Goes work None now old new before after worst = Unit {0}
Goes work (Some bytes) now old new before after worst =
    (left : List ℕ) × (now ≡ Some left) × Progress work bytes left old new before after worst

pub starts : (work : Work) (bytes old : Known) (before : List ℕ) → Goes work bytes bytes old old before before outcomes.Done
starts work None old before = tt
starts work (Some bytes) old before =
    (bytes, refl, record { lines = []; split = refl; puts = record { out = []; outputs = (refl, refl); sends = sends_none old before } })

puts_on : (work : Work) (lines : List (List ℕ)) (a b c : Known) (p q r : List ℕ) (worst : Outcome) → Puts work lines a b p q worst
    → Sends b c q r []
    → Puts work lines a c p r worst
puts_on work lines a b c p q r worst puts s =
    record { out = puts.out; outputs = puts.outputs; sends = sends_on a b c p q r puts.out puts.sends s }

-- more of what is pending goes out
pub goes_out : (work : Work) (bytes now a b c : Known) (p q r : List ℕ) (worst : Outcome) → Goes work bytes now a b p q worst
    → Sends b c q r []
    → Goes work bytes now a c p r worst
goes_out work None now a b c p q r worst goes s = tt
goes_out work (Some bytes) now a b c p q r worst goes s =
    let g = goes.2 in
    (goes.0, goes.1, record { lines = g.lines; split = g.split; puts = puts_on work g.lines a b c p q r worst g.puts s })

-- the output of a line is put
abbrev pub PutLine : Work → List ℕ → Known → Known → List ℕ → List ℕ → Outcome → Type 0
PutLine work line old new before after outcome =
    (bytes : List ℕ) × Writes work.columns work line bytes outcome × Sends old new before after bytes

puts_more : (work : Work) (lines : List (List ℕ)) (line : List ℕ) (a b c : Known) (p q r : List ℕ) (worst here : Outcome)
    → Puts work lines a b p q worst
    → PutLine work line b c q r here → Puts work (lines ++ line ∷ []) a c p r (worse worst here)
puts_more work lines line a b c p q r worst here puts more = record {
  out = puts.out ++ more.0;
  outputs = one_more work lines line puts.out more.0 worst here puts.outputs more.1;
  sends = sends_trans a b c p q r puts.out more.0 puts.sends more.2;
}

-- a line is read, and its output is put
pub goes_on : (work : Work) (bytes now next a b c : Known) (p q r : List ℕ) (worst here : Outcome) (line : List ℕ)
    → Goes work bytes now a b p q worst
    → IfSome now (λ xs. line ≡ first_piece work.end xs) → DropsThrough now next work.end → IfSome now (λ xs. 0 < length xs)
    → PutLine work line b c q r here → Goes work bytes next a c p r (worse worst here)
goes_on work None now next a b c p q r worst here line goes is drops some more = tt
goes_on work (Some bytes) now next a b c p q r worst here line goes is drops some more =
    let left = goes.0 in
    let g = goes.2 in
    let is_first : line ≡ first_piece work.end left = subst (λ o. IfSome o (λ xs. line ≡ first_piece work.end xs)) goes.1 is in
    let first = first_of work.end left (subst (λ o. IfSome o (λ xs. 0 < length xs)) goes.1 some) in
    let rest = drop_through work.end left in (
      rest,
      subst (λ o. DropsThrough o next work.end) goes.1 drops,
      record {
        lines = g.lines ++ line ∷ [];
        split =
            g.split ∙ ap (λ ls. g.lines ++ ls) (first ∙ ap (λ l. l ∷ lines_of work.end rest) (sym is_first))
            ∙ sym (append_assoc g.lines (line ∷ []) (lines_of work.end rest));
        puts = puts_more work g.lines line a b c p q r worst here g.puts more;
      },
    )

-- the same of what the loop has at hand
pub goes_further : (work : Work) (bytes now next a b c d : Known) (o p q r : List ℕ) (worst here total : Outcome) (line items : List ℕ)
    → Goes work bytes now a b o p worst → line ≡ items → IfSome now (λ xs. items ≡ first_piece work.end xs) → DropsThrough now next work.end
    → IfSome now (λ xs. 0 < length xs) → Sends b c p q [] → PutLine work line c d q r here → total ≡ worse worst here
    → Goes work bytes next a d o r total
goes_further work bytes now next a b c d o p q r worst here total line items goes same is drops some s more sum =
    let is_first = subst (λ l. IfSome now (λ xs. l ≡ first_piece work.end xs)) (sym same) is in
    subst (Goes work bytes next a d o r) (sym sum)
    (goes_on work bytes now next a c d o q r worst here line (goes_out work bytes now a b c o p q worst goes s) is_first drops some more)

-- what is put for all lines of an input
abbrev pub PutsAll : Work → Known → Known → Known → List ℕ → List ℕ → Outcome → Type 0
PutsAll work bytes old new before after worst = IfSome bytes (λ xs. Puts work (lines_of work.end xs) old new before after worst)

pub ends : (work : Work) (bytes now a b c : Known) (p q r : List ℕ) (worst : Outcome) → Goes work bytes now a b p q worst → IsAtEnd now
    → Sends b c q r []
    → PutsAll work bytes a c p r worst
ends work None now a b c p q r worst goes none s = tt
ends work (Some bytes) now a b c p q r worst goes none s =
    let g = goes.2 in
    let empty : goes.0 ≡ [] = subst IsAtEnd goes.1 none in
    let whole : lines_of work.end bytes ≡ g.lines = g.split ∙ ap (λ t. g.lines ++ lines_of work.end t) empty ∙ append-nil g.lines in
    subst (λ ls. Puts work ls a c p r worst) (sym whole) (puts_on work g.lines a b c p q r worst g.puts s)

-- the same where the last line has been read, and nothing is left then
pub finishes : (work : Work) (bytes now next a b d : Known) (o p r : List ℕ) (worst total : Outcome) → Goes work bytes now a b o p worst
    → Goes work bytes next a d o r total → IfSome now (λ _. IsAtEnd next) → PutsAll work bytes a d o r total
finishes work None now next a b d o p r worst total before goes none = tt
finishes work (Some bytes) now next a b d o p r worst total before goes none =
    ends work (Some bytes) next a d d o r r total goes (subst (λ k. IfSome k (λ _. IsAtEnd next)) before.1 none) (sends_none d r)

-- what is put for some first lines of an input
abbrev pub PutsFirst : Work → Known → Known → Known → List ℕ → List ℕ → Type 0
PutsFirst work bytes old new before after = IfSome bytes (λ xs. PutsSome work (lines_of work.end xs) old new before after)

pub stops : (work : Work) (bytes now a b c : Known) (p q r : List ℕ) (worst : Outcome) → Goes work bytes now a b p q worst
    → Sends b c q r []
    → PutsFirst work bytes a c p r
stops work None now a b c p q r worst goes s = tt
stops work (Some bytes) now a b c p q r worst goes s =
    let g = goes.2 in
    let first : take (length g.lines) (lines_of work.end bytes) ≡ g.lines =
    ap (take (length g.lines)) g.split ∙ take-append_seam g.lines (lines_of work.end goes.0) in
    record {
      count = length g.lines;
      worst = worst;
      puts = subst (λ ls. Puts work ls a c p r worst) (sym first) (puts_on work g.lines a b c p q r worst g.puts s);
    }

-- ---- the end

-- nothing was put
pub unput : (work : Work) (bytes a : Known) → IfSome bytes (λ xs. (unsent : List ℕ) × PutsSome work (lines_of work.end xs) a a [] unsent)
unput work None a = tt
unput work (Some bytes) a = (
  [],
  record {
    count = 0;
    worst = outcomes.Done;
    puts = record { out = []; outputs = (refl, refl); sends = sends_none a [] };
  },
)

-- the work has ended, and what is pending was written, or not all of it
some_put : (work : Work) (bytes : List ℕ) (a b : Known) (p q : List ℕ) (r : Result Outcome Failure) → PutsOrStops work bytes a b p q r
    → PutsSome work (lines_of work.end bytes) a b p q
some_put work bytes a b p q (Ok worst) puts =
    let all : take (length (lines_of work.end bytes)) (lines_of work.end bytes) ≡ lines_of work.end bytes =
    take_all (length (lines_of work.end bytes)) (lines_of work.end bytes) (omega arith) in
    record {
      count = length (lines_of work.end bytes);
      worst = worst;
      puts = subst (λ ls. Puts work ls a b p q worst) (sym all) puts;
    }
some_put work bytes a b p q (Err f) puts = puts

pub stopped : (work : Work) (bytes a b c : Known) (o p q : List ℕ) (r : Result Outcome Failure) → o ≡ []
    → IfSome bytes (λ xs. PutsOrStops work xs a b o p r) → Sends b c p q []
    → IfSome bytes (λ xs. (unsent : List ℕ) × PutsSome work (lines_of work.end xs) a c [] unsent)
stopped work None a b c o p q r none puts s = tt
stopped work (Some bytes) a b c o p q r none puts s =
    let some = some_put work bytes a b [] p r (subst (λ t. PutsOrStops work bytes a b t p r) none puts) in (
      q,
      record {
        count = some.count;
        worst = some.worst;
        puts = puts_on work (take some.count (lines_of work.end bytes)) a b c [] p q some.worst some.puts s;
      },
    )

pub all_put : (work : Work) (bytes a b c : Known) (o p q : List ℕ) (r : Result Outcome Failure) (worst : Outcome) → r ≡ Ok worst → o ≡ []
    → IfSome bytes (λ xs. PutsOrStops work xs a b o p r) → Sends b c p q [] → q ≡ [] → PutsAll work bytes a c [] [] worst
all_put work None a b c o p q r worst is none puts s left = tt
all_put work (Some bytes) a b c o p q r worst is none puts s left =
    let all = subst (λ t. PutsOrStops work bytes a b t p (Ok worst)) none (subst (PutsOrStops work bytes a b o p) is puts) in
    subst (λ t. Puts work (lines_of work.end bytes) a c [] t worst) left (puts_on work (lines_of work.end bytes) a b c [] p q worst all s)

-- what holds of any error
pub on_err : {T E X : Type 0} (r : Result T E) → X → OnErr r X
on_err (Ok v) x = tt
on_err (Err e) x = x

-- ---- buffers

-- a reader that has read nothing yet has all that its inner reader has
pub fresh_reader : {T A : Type 0} (remaining : T → Option (List ℕ)) (made : BufReader T A) (inner : T) → reader_inner made ≡ inner
    → reader_buffer made ≡ []
    → reader_capacity made ≡ 65536 → reader_remaining remaining made ≡ remaining inner
fresh_reader remaining made inner is empty capacity =
    ap (λ n. cond (n == 0) None (prepend_known (reader_buffer made) (remaining (reader_inner made)))) capacity
    ∙ ap (λ bs. prepend_known bs (remaining (reader_inner made))) empty ∙ prepend_known-nil (remaining (reader_inner made))
    ∙ ap remaining is

-- ---- a run

ran_so : (task : Task) (columns : Option Columns) (end : ℕ) (work : Work) (bytes : List ℕ) (a b : Known) (worst : Outcome) (status : ℕ)
    → IsWork task columns end work → status ≡ status_of worst → Puts work (lines_of work.end bytes) a b [] [] worst
    → Runs task columns end bytes a b status
ran_so task columns end work bytes a b worst status is status_is puts = record {
  work = work;
  is = is;
  out = puts.out;
  worst = worst;
  outputs = subst (λ e. Outputs work (lines_of e bytes) puts.out worst) is.end_is puts.outputs;
  written = all_sent a b puts.out puts.sends;
  status_is = status_is;
}

stopped_so : (task : Task) (columns : Option Columns) (end : ℕ) (work : Work) (bytes rest : List ℕ) (a b : Known)
    → IsWork task columns end work
    → PutsSome work (lines_of work.end bytes) a b [] rest → Stops task columns end bytes a b
stopped_so task columns end work bytes rest a b is some =
    let s = some.puts.sends in
    let whole : some.puts.out ≡ s.sent ++ rest = s.whole in
    record {
      work = work;
      is = is;
      count = some.count;
      sent = s.sent;
      unsent = rest;
      worst = some.worst;
      outputs =
          subst (λ e. Outputs work (take some.count (lines_of e bytes)) (s.sent ++ rest) some.worst) is.end_is
          (subst (λ t. Outputs work (take some.count (lines_of work.end bytes)) t some.worst) whole some.puts.outputs);
      written = s.written;
    }

pub ran : (task : Task) (columns : Option Columns) (end : ℕ) (work : Work) (now known a b : Known) (worst : Outcome) (status : ℕ)
    → IsWork task columns end work → known ≡ now → status ≡ status_of worst → PutsAll work known a b [] [] worst
    → IfSome now (λ bytes. Runs task columns end bytes a b status)
ran task columns end work None known a b worst status is same status_is puts = tt
ran task columns end work (Some bytes) known a b worst status is same status_is puts =
    ran_so task columns end work bytes a b worst status is status_is (subst (λ o. PutsAll work o a b [] [] worst) same puts)

pub cut_off : (task : Task) (columns : Option Columns) (end : ℕ) (work : Work) (now known a b : Known) (f : Failure)
    → IsWork task columns end work → known ≡ now → EndsWork f
    → IfSome known (λ xs. (unsent : List ℕ) × PutsSome work (lines_of work.end xs) a b [] unsent)
    → IfSome now (λ bytes. EndsWork f × Stops task columns end bytes a b)
cut_off task columns end work None known a b f is same ends puts = tt
cut_off task columns end work (Some bytes) known a b f is same ends puts =
    let some = subst (λ o. IfSome o (λ xs. (unsent : List ℕ) × PutsSome work (lines_of work.end xs) a b [] unsent)) same puts in
    (ends, stopped_so task columns end work bytes some.0 a b is some.1)

-- no line was read
not_started : (task : Task) (columns : Option Columns) (end : ℕ) (work : Work) (now a : Known) (f : Failure) → IsWork task columns end work
    → EndsWork f
    → IfSome now (λ bytes. EndsWork f × Stops task columns end bytes a a)
not_started task columns end work now a f is ends = cut_off task columns end work now now a a f is refl ends (unput work now a)

pub never_started : (task : Task) (columns : Option Columns) (end : ℕ) (work : Work) (now a : Known) (f : Failure) (r : Result ℕ Failure)
    → IsErrAnd r (λ g. g ≡ f) → EndsWork f → IsWork task columns end work → IfSome now (λ bytes. RunsOrStops task columns end bytes a a r)
never_started task columns end work None a f r is ends of = tt
never_started task columns end work (Some bytes) a f (Ok v) is ends of = absurd is
never_started task columns end work (Some bytes) a f (Err g) is ends of =
    not_started task columns end work (Some bytes) a g of (subst EndsWork (sym is) ends)
