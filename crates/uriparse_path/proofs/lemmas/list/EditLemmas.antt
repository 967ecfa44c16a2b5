-- Paths after edits.
use Rattle.std.proofs.Common.{◌≡◌, ℕ, zero, suc, ◌+◌, ◌<◌, ◌≤◌, Bool, cond, List, [], ◌∷◌, ◌++◌, length, slice_set, take, Result, Ok, Err, IfErr, MatchResult, inl, inr}
use Rattle.std.proofs.Common.{refl, sym, ap, subst, ◌∙◌, arith}
use Rattle.std.proofs.lemmas.Bool.{lt-ltb, le-ltb}
use Rattle.uriparse_text.specs.Readings.{◌>>=◌, Settles, SettlesUnless}
use Rattle.uriparse_text.specs.declared.segment.error.PathError.{PathError}
use Rattle.uriparse_text.specs.declared.segment.error.PathError.TheVariants.{ExceededMaximumLength, OutOfMemory}
use Rattle.uriparse_path.specs.Path.{PathParts, IsCounted, max_segments}
use Rattle.uriparse_path.specs.Edits.{with_last, pushed, pushing}
use Rattle.uriparse_path.specs.Dots.{all_but_last}
use Rattle.uriparse_path.specs.Relative.{filled}
use Rattle.uriparse_path.proofs.lemmas.normal.NormalFormLemmas.{length_cut}

-- there is no room for one more segment
pub pushing_full : (p : PathParts) (read : Result (List ℕ) PathError) → max_segments ≤ length p.segments → pushing p read ≡ Err ExceededMaximumLength
pushing_full p read h = ap (λ v. cond v (read >>= (λ s. Ok (pushed p s))) (Err ExceededMaximumLength)) (le-ltb (length p.segments) max_segments h)

-- there is room for one more
pub pushing_room : (p : PathParts) (read : Result (List ℕ) PathError) → length p.segments < max_segments → pushing p read ≡ (read >>= (λ s. Ok (pushed p s)))
pushing_room p read h = ap (λ v. cond v (read >>= (λ s. Ok (pushed p s))) (Err ExceededMaximumLength)) (lt-ltb (length p.segments) max_segments h)

-- ---- the number of segments after an edit

length-push : (ss : List (List ℕ)) (s : List ℕ) → length (ss ++ s ∷ []) ≡ length ss + 1
length-push [] s = refl
length-push (t ∷ ss) s = let more = length-push ss s in omega arith

one_more : (ss : List (List ℕ)) (s : List ℕ) → length ss < max_segments → IsCounted (ss ++ s ∷ [])
one_more ss s h = let e = length-push ss s in record { some = omega arith; short = omega arith }

pub counted-with_last : (ss : List (List ℕ)) (s : List ℕ) → 0 < length ss → length ss < max_segments → IsCounted (with_last ss s)
counted-with_last [] s k h = absurd (omega (arith, k))
counted-with_last ([] ∷ []) [] k h = one_more ([] ∷ []) [] h
counted-with_last ([] ∷ []) (b ∷ s) k h = record { some = omega arith; short = omega (arith, h) }
counted-with_last ([] ∷ t ∷ ss) s k h = one_more ([] ∷ t ∷ ss) s h
counted-with_last ((c ∷ t) ∷ ss) s k h = one_more ((c ∷ t) ∷ ss) s h

-- ---- the last segment removed

pub all_but_last-take : (ss : List (List ℕ)) (n : ℕ) → n + 1 ≡ length ss → take n ss ≡ all_but_last ss
all_but_last-take [] zero h = refl
all_but_last-take [] (suc n) h = refl
all_but_last-take (s ∷ []) zero h = refl
all_but_last-take (s ∷ []) (suc n) h = absurd (omega (arith, h))
all_but_last-take (s ∷ r ∷ ss) zero h = absurd (omega (arith, h))
all_but_last-take (s ∷ r ∷ ss) (suc n) h = ap (λ u. s ∷ u) (all_but_last-take (r ∷ ss) n (omega (arith, h)))

pub popped_several : (ss : List (List ℕ)) (n : ℕ) → n + 1 ≡ length ss → 0 < n → take n ss ≡ filled (all_but_last ss)
popped_several [] n h k = absurd (omega (arith, h))
popped_several (s ∷ []) n h k = absurd (omega (arith, h, k))
popped_several (s ∷ r ∷ ss) n h k = all_but_last-take (s ∷ r ∷ ss) n h

pub popped_one : (ss : List (List ℕ)) → length ss ≡ 1 → filled (all_but_last ss) ≡ [] ∷ []
popped_one [] h = refl
popped_one (s ∷ []) h = refl
popped_one (s ∷ r ∷ ss) h = absurd (omega (arith, h))

pub counted_popped : (ss : List (List ℕ)) → IsCounted ss → IsCounted (filled (all_but_last ss))
counted_popped [] is = absurd (omega (arith, is.some))
counted_popped (s ∷ []) is = record { some = omega arith; short = let short = is.short in omega arith }
counted_popped (s ∷ r ∷ ss) is = record { some = omega arith; short = let cut = length_cut (s ∷ r ∷ ss) in let short = is.short in omega arith }

-- ---- what a push returns

abbrev make : Bool → List (List ℕ) → PathParts
make a ss = record { absolute = a; segments = ss }

pub full_answer : (p : PathParts) (read : Result (List ℕ) PathError) → max_segments ≤ length p.segments
    → SettlesUnless OutOfMemory p p (Err ExceededMaximumLength) (pushing p read)
full_answer p read h = inl (pushing_full p read h, refl)

pub full_fault : (p : PathParts) (read : Result (List ℕ) PathError) → max_segments ≤ length p.segments
    → IfErr (pushing p read) (λ e. ◌≡◌ {A = Result (Unit {0}) PathError} (Err ExceededMaximumLength) (Err e))
full_fault p read h = subst (λ r. IfErr r (λ e. ◌≡◌ {A = Result (Unit {0}) PathError} (Err ExceededMaximumLength) (Err e))) (sym (pushing_full p read h)) refl

-- the list after the flag was changed, or memory ran out
pub pushed_answer : (p : PathParts) (a : Bool) (ss new : List (List ℕ)) (s : List ℕ) (result : Result (Unit {0}) PathError) → make a ss ≡ p
    → length ss < max_segments
    → MatchResult result (λ _. new ≡ with_last ss s) (λ e. (e ≡ OutOfMemory) × (new ≡ ss))
    → SettlesUnless OutOfMemory p (make a new) result (pushing p (Ok s))
pushed_answer p a ss new s (Ok x) e h k =
    inl (subst (λ q. pushing q (Ok s) ≡ Ok (make a new)) e (pushing_room (make a ss) (Ok s) h ∙ ap (λ u. Ok (make a u)) (sym k)))
pushed_answer p a ss new s (Err x) e h k = inr (ap Err k.0, ap (make a) k.1 ∙ e)

pub pushed_fault : (p : PathParts) (a : Bool) (ss : List (List ℕ)) (s : List ℕ) (result : Result (Unit {0}) PathError) → make a ss ≡ p
    → length ss < max_segments → IfErr (pushing p (Ok s)) (λ e. result ≡ Err e)
pushed_fault p a ss s result e h =
    subst (λ q. IfErr (pushing q (Ok s)) (λ e. result ≡ Err e)) e (subst (λ r. IfErr r (λ e. result ≡ Err e)) (sym (pushing_room (make a ss) (Ok s) h)) tt)

pub counted_pushed : (ss new : List (List ℕ)) (s : List ℕ) (result : Result (Unit {0}) PathError) → IsCounted ss → length ss < max_segments
    → MatchResult result (λ _. new ≡ with_last ss s) (λ e. (e ≡ OutOfMemory) × (new ≡ ss)) → IsCounted new
counted_pushed ss new s (Ok x) is h k = subst IsCounted (sym k) (counted-with_last ss s is.some h)
counted_pushed ss new s (Err x) is h k = subst IsCounted (sym k.1) is

-- ---- what a push of bytes returns

pub refused_answer : (p : PathParts) (e : PathError) (result : Result (Unit {0}) PathError) → length p.segments < max_segments → result ≡ Err e
    → SettlesUnless OutOfMemory p p result (pushing p (Err e))
refused_answer p e result h k = inl (subst (λ r. Settles p p r (pushing p (Err e))) (sym k) (pushing_room p (Err e) h, refl))

pub refused_fault : (p : PathParts) (e : PathError) (result : Result (Unit {0}) PathError) → length p.segments < max_segments → result ≡ Err e
    → IfErr (pushing p (Err e)) (λ x. result ≡ Err x)
refused_fault p e result h k = subst (λ r. IfErr r (λ x. result ≡ Err x)) (sym (pushing_room p (Err e) h)) k

-- the only segment replaced
pub set_only : (ss : List (List ℕ)) → length ss ≡ 1 → slice_set ss 0 [] ≡ [] ∷ []
set_only [] h = absurd (omega (arith, h))
set_only (s ∷ []) h = refl
set_only (s ∷ r ∷ ss) h = absurd (omega (arith, h))

-- the first segment alone, replaced
pub set_first : (ss : List (List ℕ)) → 0 < length ss → slice_set (take 1 ss) 0 [] ≡ [] ∷ []
set_first [] h = absurd (omega (arith, h))
set_first (s ∷ ss) h = refl

pub first_set : (ss : List (List ℕ)) → 0 < length ss → take 1 (slice_set ss 0 []) ≡ [] ∷ []
first_set [] h = absurd (omega (arith, h))
first_set (s ∷ ss) h = refl
