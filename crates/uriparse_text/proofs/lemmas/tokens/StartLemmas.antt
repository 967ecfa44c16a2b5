-- Texts that are written to the start of a buffer, piece by piece.
use Rattle.std.proofs.Common.{◌≡◌, ℕ, ◌+◌, ◌-◌, ◌^◌, ◌<◌, ◌≤◌, List, [], ◌++◌, length, drop, Result, Ok, Err, refl, sym, ap, subst, ◌∙◌, append-nil, append_assoc, arith}
use Rattle.std.proofs.lemmas.List.{drop-drop, length-append, take-append-drop}
use Rattle.uriparse_text.specs.declared.internal.forward_buffer.TooSmall.{TooSmall}
use Rattle.uriparse_text.specs.Starts.{Appends, LeavesRest, StartsWith, Writes}

pub appends_none : (out : List ℕ) (len : ℕ) → Appends [] out len out len
appends_none out len = λ t h. subst (StartsWith out len) (sym (append-nil t)) h

pub appends_both : (s u first mid last : List ℕ) (l m r : ℕ) → Appends s first l mid m → Appends u mid m last r → Appends (s ++ u) first l last r
appends_both s u first mid last l m r one other = λ t h. subst (StartsWith last r) (append_assoc t s u) (other (t ++ s) (one t h))

-- an empty text is at the start of each buffer
pub starts_none : (buffer : List ℕ) → StartsWith buffer 0 []
starts_none buffer = record { size = refl; fits = λ _. refl }

pub leaves_none : (out : List ℕ) (len : ℕ) → LeavesRest out len out len
leaves_none out len = record { longer = omega arith; same = refl }

pub leaves_both : (first mid last : List ℕ) (l m r : ℕ) → LeavesRest first l mid m → LeavesRest mid m last r → LeavesRest first l last r
leaves_both first mid last l m r one other =
    let one_longer = one.longer in
    let other_longer = other.longer in
    let sum : m + (r - m) ≡ r = omega arith in
    record {
      longer = omega arith;
      same = other.same ∙ ap (λ n. drop n mid) (sym sum) ∙ sym (drop-drop (r - m) m mid) ∙ ap (drop (r - m)) one.same
          ∙ drop-drop (r - m) m first ∙ ap (λ n. drop n first) sum;
    }

-- a text for which there is room, and what follows it
pub writes_whole : (t old new : List ℕ) (n : ℕ) → StartsWith new n t → length new ≡ length old → LeavesRest old 0 new n → length t ≤ length old
    → length old < 2 ^ 64 → (n ≡ length t) × (new ≡ t ++ drop (length t) old)
writes_whole t old new n starts room rest fits small =
    let starts_size = starts.size in
    let is : n ≡ length t = omega arith in (
      is,
      sym (take-append-drop (length t) new)
          ∙ ap (λ u. u ++ drop (length t) new) (starts.fits (omega arith))
          ∙ ap (λ u. t ++ u) (ap (λ k. drop k new) (sym is) ∙ rest.same ∙ ap (λ k. drop k old) is),
    )

-- a text of which this is still to be written
pub record Writing (whole left first : List ℕ) (begin : ℕ) (out : List ℕ) (len : ℕ) : Type 0 where
  pub written : List ℕ
  pub later : written ++ left ≡ whole
  pub appended : Appends written first begin out len
  pub room : length out ≡ length first
  pub rest : LeavesRest first begin out len

pub writing_first : (whole first : List ℕ) (begin : ℕ) → Writing whole whole first begin first begin
writing_first whole first begin = record { written = []; later = refl; appended = appends_none first begin; room = refl; rest = leaves_none first begin }

pub writing_next : (whole left more piece first out new : List ℕ) (begin len next : ℕ) → Writing whole left first begin out len → left ≡ piece ++ more
    → Appends piece out len new next → length new ≡ length out → LeavesRest out len new next → Writing whole more first begin new next
writing_next whole left more piece first out new begin len next w cut appends room rest = record {
  written = w.written ++ piece;
  later = append_assoc w.written piece more ∙ ap (λ l. w.written ++ l) (sym cut) ∙ w.later;
  appended = appends_both w.written piece first out new begin len next w.appended appends;
  room = room ∙ w.room;
  rest = leaves_both first out new begin len next w.rest rest;
}

pub writing_last : (whole left first out : List ℕ) (begin len : ℕ) → Writing whole left first begin out len → left ≡ []
    → Appends whole first begin out len
writing_last whole left first out begin len w none =
    subst (λ t. Appends t first begin out len) (sym (append-nil w.written) ∙ ap (λ l. w.written ++ l) (sym none) ∙ w.later) w.appended

-- ---- what a call leaves in a buffer

-- a buffer doesn't begin with a text that is longer
pub too_short : (t old new : List ℕ) → new ≡ t ++ drop (length t) old → length new ≡ length old → length old < length t → ⊥
too_short t old new text room long =
    let whole : length new ≡ length t + length (drop (length t) old) = ap length text ∙ length-append t (drop (length t) old) in
    absurd (omega (arith, whole, room, long))

pub same_result : (t old new other : List ℕ) (r s : Result ℕ TooSmall) → length new ≡ length old → length other ≡ length old → Writes t r old new
    → Writes t s old other → r ≡ s
same_result t old new other (Ok n) (Ok m) room space w v = ap Ok (w.0 ∙ sym v.0)
same_result t old new other (Ok n) (Err e) room space w v = absurd (too_short t old new w.1 room v.1.0)
same_result t old new other (Err e) (Ok m) room space w v = absurd (too_short t old other v.1 space w.1.0)
same_result t old new other (Err e) (Err f) room space w v = ap Err (w.0 ∙ sym v.0)

pub same_buffer : (t old new other : List ℕ) (r s : Result ℕ TooSmall) → length new ≡ length old → length other ≡ length old → Writes t r old new
    → Writes t s old other → new ≡ other
same_buffer t old new other (Ok n) (Ok m) room space w v = w.1 ∙ sym v.1
same_buffer t old new other (Ok n) (Err e) room space w v = absurd (too_short t old new w.1 room v.1.0)
same_buffer t old new other (Err e) (Ok m) room space w v = absurd (too_short t old other v.1 space w.1.0)
same_buffer t old new other (Err e) (Err f) room space w v = w.1.1 ∙ sym v.1.1
