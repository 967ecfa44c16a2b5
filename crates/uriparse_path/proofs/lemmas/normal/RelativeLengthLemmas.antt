-- No normal form of a relative path has more segments than the path.
use Rattle.std.proofs.Common.{◌≡◌, ℕ, ◌+◌, ◌<◌, ◌≤◌, Bool, true, false, not, cond, List, [], ◌∷◌, ◌++◌, length, refl, sym, ap, ◌∙◌, subst, arith}
use Rattle.std.proofs.Common.{◌&&◌, inl, inr, ⊎_elim, length-append}
use Rattle.std.specs.Prelude.{reverse, ◌⊎◌}
use Rattle.std.proofs.lemmas.Bool.{false≢true}
use Rattle.std.proofs.lemmas.List.{reverse-append, length-reverse}
use Rattle.uriparse_text.specs.Bytes.{dot}
use Rattle.uriparse_path.specs.Path.{starts_with_empty_segment, IsCounted}
use Rattle.uriparse_path.specs.Dots.{is_single_dot, is_double_dot, is_dot_segment}
use Rattle.uriparse_path.specs.Relative.{Deletes, single, pair, Leads, done, more, is_last, closed, has_colon, needs_leading_dot, with_leading_dot}
use Rattle.uriparse_path.specs.Relative.{filled, put, put_all, reduced, relative_normal}
use Rattle.uriparse_path.specs.Normal.{begins_with_double_dots}
use Rattle.uriparse_path.proofs.lemmas.dots.DotSegmentLemmas.{not_both, no_dot}
use Rattle.uriparse_path.proofs.lemmas.text.CanonicalTextLemmas.{length-canonical}
use Rattle.uriparse_path.proofs.lemmas.normal.DeletionLemmas.{leads_iff, put_all-append, put_single}
use Rattle.uriparse_path.proofs.lemmas.normal.RelativeFormLemmas.{reduced_double_dots, shaped, relative_is, climbing_kept, some_filled}

-- deletions make a list shorter
leads_shorter : {m l : List (List ℕ)} → Leads m l → (length m < length l) ⊎ (m ≡ l)
leads_shorter done = inr refl
leads_shorter {m} {l} (more {k = k} s r) = inl (⊎_elim (λ h. omega (arith, h, one s)) (λ e. omega (arith, ap length e, one s)) (leads_shorter r))
  where
    one : Deletes l k → length k < length l
    one (single before after d e f g) = omega (arith, ap length f, ap length g, length-append before after, length-append before (d ∷ after))
    one (pair before after x d e f g h) = omega (arith, ap length g, ap length h, length-append before after, length-append before (x ∷ d ∷ after))

length_filled : (c : List (List ℕ)) (n : ℕ) → 0 < n → length c ≤ n → length (filled c) ≤ n
length_filled [] n h k = omega arith
length_filled (s ∷ c) n h k = k

length_closed : (ended : Bool) (m : List (List ℕ)) → length (closed ended m) ≤ length m + 1
length_closed ended [] = omega arith
length_closed ended (s ∷ m) = by_test (ended && not (is_last is_double_dot (s ∷ m)))
  where
    by_test : (v : Bool) → length (cond v ((s ∷ m) ++ [] ∷ []) (s ∷ m)) ≤ length (s ∷ m) + 1
    by_test true = omega (arith, length-append (s ∷ m) ([] ∷ []))
    by_test false = omega arith

length_guarded : (old new : List (List ℕ)) → length (with_leading_dot old new) ≤ length new + 1
length_guarded old new = by_leading_dot (needs_leading_dot old new)
  where
    by_leading_dot : (v : Bool) → length (cond v ((dot ∷ []) ∷ new) new) ≤ length new + 1
    by_leading_dot true = omega arith
    by_leading_dot false = omega arith

-- two deletions make room for both ends
two_gone : (l : List (List ℕ)) → length (reduced l) + 2 ≤ length l → length (shaped l) ≤ length l
two_gone l h =
    let c = closed (is_last is_dot_segment l) (reduced l) in
    length_filled (with_leading_dot l c) (length l) (omega arith) (omega (arith, length_guarded l c, length_closed (is_last is_dot_segment l) (reduced l)))

-- one makes room for the front
one_gone : (l : List (List ℕ)) → length (reduced l) < length l → closed (is_last is_dot_segment l) (reduced l) ≡ reduced l → length (shaped l) ≤ length l
one_gone l h e =
    subst (λ u. length (filled (with_leading_dot l u)) ≤ length l) (sym e)
    (length_filled (with_leading_dot l (reduced l)) (length l) (omega arith) (omega (arith, length_guarded l (reduced l))))

none_gone : (l : List (List ℕ)) → 0 < length l → starts_with_empty_segment l ≡ false → reduced l ≡ l → length (shaped l) ≤ length l
none_gone l some h e =
    let k : begins_with_double_dots l ≡ true = sym (ap begins_with_double_dots e) ∙ reduced_double_dots l in
    omega (arith, ap length (climbing_kept l some h k))

leads_reduced : (l : List (List ℕ)) → (length (reduced l) < length l) ⊎ (reduced l ≡ l)
leads_reduced l = leads_shorter ((leads_iff l (reduced l)).1 refl).0

-- if the end stays as it is
open_end : (l : List (List ℕ)) → 0 < length l → starts_with_empty_segment l ≡ false → closed (is_last is_dot_segment l) (reduced l) ≡ reduced l → length (shaped l) ≤ length l
open_end l some h e = ⊎_elim (λ g. one_gone l g e) (λ g. none_gone l some h g) (leads_reduced l)

pub last_push : (p : List ℕ → Bool) (front : List (List ℕ)) (y : List ℕ) → is_last p (front ++ y ∷ []) ≡ p y
last_push p [] y = refl
last_push p (s ∷ []) y = refl
last_push p (s ∷ r ∷ front) y = last_push p (r ∷ front) y

closed_not : (m : List (List ℕ)) → closed false m ≡ m
closed_not [] = refl
closed_not (s ∷ m) = refl

pub closed_double : (ended : Bool) (m : List (List ℕ)) → is_last is_double_dot m ≡ true → closed ended m ≡ m
closed_double ended [] h = refl
closed_double true (s ∷ m) h = rw h refl
closed_double false (s ∷ m) h = refl

never_own : (v : Bool) → (v && not v) ≡ false
never_own true = refl
never_own false = refl

pub put_away : (t : List ℕ) (stack : List (List ℕ)) (y : List ℕ) → is_double_dot y ≡ true → is_dot_segment t ≡ false → put (t ∷ stack) y ≡ stack
put_away t stack y d f = rw (not_both y d, d, f) refl

-- a list and its last segment
module _ (front : List (List ℕ)) (y : List ℕ) (h : starts_with_empty_segment (front ++ y ∷ []) ≡ false) where
  longer : length (front ++ y ∷ []) ≡ length front + 1
  longer = length-append front (y ∷ [])

  reduced_push : reduced (front ++ y ∷ []) ≡ reverse (put (put_all [] front) y)
  reduced_push = ap reverse (put_all-append [] front (y ∷ []))

  other_last : is_dot_segment y ≡ false → length (shaped (front ++ y ∷ [])) ≤ length (front ++ y ∷ [])
  other_last e = open_end (front ++ y ∷ []) (omega (arith, longer)) h (ap (λ v. closed v (reduced (front ++ y ∷ []))) (last_push is_dot_segment front y ∙ e)
      ∙ closed_not (reduced (front ++ y ∷ [])))

  kept_last : is_last is_double_dot (reduced (front ++ y ∷ [])) ≡ true → length (shaped (front ++ y ∷ [])) ≤ length (front ++ y ∷ [])
  kept_last e = open_end (front ++ y ∷ []) (omega (arith, longer)) h (closed_double (is_last is_dot_segment (front ++ y ∷ [])) (reduced (front ++ y ∷ [])) e)

  pushed_last : (stack : List (List ℕ)) → is_double_dot y ≡ true → put (put_all [] front) y ≡ y ∷ stack
      → length (shaped (front ++ y ∷ [])) ≤ length (front ++ y ∷ [])
  pushed_last stack d e = kept_last (ap (is_last is_double_dot) (reduced_push ∙ ap reverse e ∙ reverse-append (y ∷ []) stack)
      ∙ last_push is_double_dot (reverse stack) y ∙ d)

  double_last : is_double_dot y ≡ true → length (shaped (front ++ y ∷ [])) ≤ length (front ++ y ∷ [])
  double_last d = by_stack (put_all [] front) refl
    where
      by_stack : (stack : List (List ℕ)) → put_all [] front ≡ stack → length (shaped (front ++ y ∷ [])) ≤ length (front ++ y ∷ [])
      by_stack [] e = pushed_last [] d (ap (λ u. put u y) e ∙ rw (not_both y d) refl)
      by_stack (t ∷ stack) e = by_dot (is_dot_segment t) refl
        where
          by_dot : (v : Bool) → is_dot_segment t ≡ v → length (shaped (front ++ y ∷ [])) ≤ length (front ++ y ∷ [])
          by_dot true f = pushed_last (t ∷ stack) d (ap (λ u. put u y) e ∙ rw (not_both y d, d, f) refl)
          by_dot false f =
              let gone : reduced (front ++ y ∷ []) ≡ reverse stack = reduced_push ∙ ap reverse (ap (λ u. put u y) e ∙ put_away t stack y d f) in
              let all : length (reduced front) ≡ length stack + 1 = ap (λ u. length (reverse u)) e ∙ length-reverse (t ∷ stack) ∙ omega arith in
              let some : length (reduced front) ≤ length front = ⊎_elim (λ g. omega arith) (λ g. omega (arith, ap length g)) (leads_reduced front) in
              two_gone (front ++ y ∷ []) (omega (arith, longer, ap length gone, length-reverse stack, all, some))

single_last : (front : List (List ℕ)) (y : List ℕ) → starts_with_empty_segment (front ++ y ∷ []) ≡ false → is_single_dot y ≡ true
    → length (shaped (front ++ y ∷ [])) ≤ length (front ++ y ∷ [])
single_last front y h d = ⊎_elim (λ g. two_gone (front ++ y ∷ []) (omega (arith, g, ap length gone, longer front y h))) (λ g. by_front front h (gone
    ∙ g)) (leads_reduced front)
  where
    gone : reduced (front ++ y ∷ []) ≡ reduced front
    gone = reduced_push front y h ∙ ap reverse (put_single (put_all [] front) y d)

    ends : (b : ℕ) (s : List ℕ) (f : List (List ℕ)) (v : Bool)
        → length (filled (with_leading_dot ((b ∷ s) ∷ (f ++ y ∷ [])) (cond v (((b ∷ s) ∷ f) ++ [] ∷ []) ((b ∷ s) ∷ f)))) ≤ length ((b ∷ s) ∷ (f ++ y ∷ []))
    ends b s f true = rw (never_own (has_colon (b ∷ s))) (omega (arith, length-append f (y ∷ []), length-append f ([] ∷ [])))
    ends b s f false = rw (never_own (has_colon (b ∷ s))) (omega (arith, length-append f (y ∷ [])))

    by_front : (f : List (List ℕ)) → starts_with_empty_segment (f ++ y ∷ []) ≡ false → reduced (f ++ y ∷ []) ≡ f → length (shaped (f ++ y ∷ [])) ≤ length (f ++ y ∷ [])
    by_front [] k e = omega (arith, ap (λ u. length (filled (with_leading_dot (y ∷ []) (closed (is_last is_dot_segment (y ∷ [])) u)))) e)
    by_front ([] ∷ []) k e = absurd (false≢true (sym k))
    by_front ([] ∷ r ∷ f) k e = absurd (false≢true (sym k))
    by_front ((b ∷ s) ∷ f) k e =
        subst (λ u. length (filled (with_leading_dot ((b ∷ s) ∷ (f ++ y ∷ [])) (closed (is_last is_dot_segment ((b ∷ s) ∷ (f ++ y ∷ []))) u))) ≤ length
        ((b ∷ s) ∷ (f ++ y ∷ []))) (sym e)
        (ends b s f (is_last is_dot_segment ((b ∷ s) ∷ (f ++ y ∷ [])) && not (is_last is_double_dot ((b ∷ s) ∷ f))))

-- a list that is not empty has a last segment
pub record Pushed (l : List (List ℕ)) : Type 0 where
  pub front : List (List ℕ)
  pub last : List ℕ
  pub whole : l ≡ front ++ last ∷ []

pub pushed : (s : List ℕ) (l : List (List ℕ)) → Pushed (s ∷ l)
pushed s [] = record { front = []; last = s; whole = refl }
pushed s (t ∷ l) = let is = pushed t l in record { front = s ∷ is.front; last = is.last; whole = ap (λ u. s ∷ u) is.whole }

length_pushed : (front : List (List ℕ)) (y : List ℕ) → starts_with_empty_segment (front ++ y ∷ []) ≡ false → length (shaped (front ++ y ∷ [])) ≤ length (front ++ y ∷ [])
length_pushed front y h = by_kind (is_single_dot y) refl (is_double_dot y) refl
  where
    by_kind : (v : Bool) → is_single_dot y ≡ v → (w : Bool) → is_double_dot y ≡ w → length (shaped (front ++ y ∷ [])) ≤ length (front ++ y ∷ [])
    by_kind true e w f = single_last front y h e
    by_kind false e true f = double_last front y h f
    by_kind false e false f = other_last front y h (no_dot y e f)

pub length_shaped : (l : List (List ℕ)) → 0 < length l → starts_with_empty_segment l ≡ false → length (shaped l) ≤ length l
length_shaped [] some h = absurd (omega arith)
length_shaped (s ∷ l) some h =
    let is = pushed s l in
    subst (λ u. length (shaped u) ≤ length u) (sym is.whole) (length_pushed is.front is.last (sym (ap starts_with_empty_segment is.whole) ∙ h))

pub length_relative : (l : List (List ℕ)) → 0 < length l → starts_with_empty_segment l ≡ false → length (relative_normal l) ≤ length l
length_relative l some h = rw (relative_is l, length-canonical (shaped l)) (length_shaped l some h)

-- the end alone is no longer than the whole
pub length_closed_end : (l : List (List ℕ)) → 0 < length l → starts_with_empty_segment l ≡ false → length (closed (is_last is_dot_segment l) (reduced l)) ≤ length l
length_closed_end l some h =
    let c = closed (is_last is_dot_segment l) (reduced l) in
    omega (arith, length_shaped l some h, with_front (needs_leading_dot l c) c)
  where
    filled_longer : (c : List (List ℕ)) → length c ≤ length (filled c)
    filled_longer [] = omega arith
    filled_longer (s ∷ c) = omega arith

    with_front : (v : Bool) (c : List (List ℕ)) → length c ≤ length (filled (cond v ((dot ∷ []) ∷ c) c))
    with_front true c = omega arith
    with_front false c = filled_longer c

pub counted_shaped : (l : List (List ℕ)) → IsCounted l → starts_with_empty_segment l ≡ false → IsCounted (shaped l)
counted_shaped l is h =
    let short = length_shaped l is.some h in
    record { some = some_filled (with_leading_dot l (closed (is_last is_dot_segment l) (reduced l))); short = omega (arith, short, is.short) }
