-- The steps that remove dot segments from a text leave no choice, and end.
use Rattle.std.proofs.Common.{◌≡◌, ℕ, ◌<◌, ◌≤◌, false, cond, List, [], ◌∷◌, ◌++◌, length, drop, refl, sym, ap, ◌∙◌, subst, arith, append-nil, length-append}
use Rattle.std.proofs.lemmas.Bool.{not-true, and_parts}
use Rattle.uriparse_text.specs.Bytes.{slash}
use Rattle.uriparse_text.specs.Cuts.{up_to, from_first}
use Rattle.uriparse_path.specs.Path.{is_slash, is_rooted, unrooted}
use Rattle.uriparse_path.specs.Dots.{is_single_dot, is_double_dot, is_dot_segment, LacksSlash, IsRest, slashed, without_last, Step, drops, stays, double_dots, ends}
use Rattle.uriparse_path.specs.Dots.{begins, moves, Reaches, done, more}
use Rattle.uriparse_path.proofs.lemmas.dots.DotSegmentLemmas.{not_both, neither, single_dot, double_dot, dot_some, single_lacks_slash, double_lacks_slash, dot_lacks_slash}

-- ---- the first segment of a text

-- the segment that begins the text, and what follows it
abbrev seg : List ℕ → List ℕ
seg t = up_to is_slash t

abbrev rest_of : List ℕ → List ℕ
rest_of t = from_first is_slash t

pub record IsSplit (t s rest : List ℕ) : Type 0 where
  pub segment : up_to is_slash t ≡ s
  pub left : from_first is_slash t ≡ rest

split : (s rest : List ℕ) → LacksSlash s → IsRest rest → IsSplit (s ++ rest) s rest
split [] [] h k = record { segment = refl; left = refl }
split [] (b ∷ rest) h k = record { segment = rw k refl; left = rw k refl }
split (b ∷ s) rest h k =
    let both = and_parts _ _ h in
    let is = split s rest both.1 k in
    let other : is_slash b ≡ false = not-true (is_slash b) both.0 in
    record { segment = rw (other, is.segment) refl; left = rw (other, is.left) refl }

pub not_rooted : (s rest : List ℕ) → LacksSlash s → 0 < length s → is_rooted (s ++ rest) ≡ false
not_rooted [] rest h k = absurd (omega arith)
not_rooted (b ∷ s) rest h k = not-true (is_slash b) (and_parts _ _ h).0

-- ---- a step, by the first segment

-- the input after a step
abbrev next_input : List ℕ → List ℕ
next_input i =
    cond (is_rooted i) (cond (is_dot_segment (seg (unrooted i))) (slashed (rest_of (unrooted i))) (rest_of (unrooted i)))
    (cond (is_dot_segment (seg i)) (drop 1 (rest_of i)) (rest_of i))

-- the output after a step
abbrev next_output : List ℕ → List ℕ → List ℕ
next_output i o =
    cond (is_rooted i) (cond (is_single_dot (seg (unrooted i))) o (cond (is_double_dot (seg (unrooted i))) (without_last o) (o ++ slash ∷ seg (unrooted i))))
    (cond (is_dot_segment (seg i)) o (o ++ seg i))

relative_input : (t s rest : List ℕ) → is_rooted t ≡ false → IsSplit t s rest → next_input t ≡ cond (is_dot_segment s) (drop 1 rest) rest
relative_input t s rest a is = rw (a, is.segment, is.left) refl

relative_output : (t s rest o : List ℕ) → is_rooted t ≡ false → IsSplit t s rest → next_output t o ≡ cond (is_dot_segment s) o (o ++ s)
relative_output t s rest o a is = rw (a, is.segment) refl

rooted_input : (s rest : List ℕ) → LacksSlash s → IsRest rest → next_input (slash ∷ (s ++ rest)) ≡ cond (is_dot_segment s) (slashed rest) rest
rooted_input s rest h k = let is = split s rest h k in rw (is.segment, is.left) refl

rooted_output : (s rest o : List ℕ) → LacksSlash s → IsRest rest
    → next_output (slash ∷ (s ++ rest)) o ≡ cond (is_single_dot s) o (cond (is_double_dot s) (without_last o) (o ++ slash ∷ s))
rooted_output s rest o h k = let is = split s rest h k in rw is.segment refl

-- each step is the one that the first segment determines
step_is : (i o j p : List ℕ) → Step i o j p → (j ≡ next_input i) × (p ≡ next_output i o)
step_is i o j p (drops d h e f) =
    let lacks = dot_lacks_slash d h in
    let is = split d (slash ∷ j) lacks refl in
    let r = not_rooted d (slash ∷ j) lacks (dot_some d h) in (
      sym (ap next_input e ∙ relative_input (d ++ slash ∷ j) d (slash ∷ j) r is ∙ rw h refl),
      f ∙ sym (ap (λ u. next_output u o) e ∙ relative_output (d ++ slash ∷ j) d (slash ∷ j) o r is ∙ rw h refl),
    )
step_is i o j p (stays d rest h k e f g) =
    let lacks = single_lacks_slash d h in (
      f ∙ sym (ap next_input e ∙ rooted_input d rest lacks k ∙ rw (single_dot d h) refl),
      g ∙ sym (ap (λ u. next_output u o) e ∙ rooted_output d rest o lacks k ∙ rw h refl),
    )
step_is i o j p (double_dots d rest h k e f g) =
    let lacks = double_lacks_slash d h in (
      f ∙ sym (ap next_input e ∙ rooted_input d rest lacks k ∙ rw (double_dot d h) refl),
      g ∙ sym (ap (λ u. next_output u o) e ∙ rooted_output d rest o lacks k ∙ rw (not_both d h, h) refl),
    )
step_is i o j p (ends h e f) =
    let lacks = dot_lacks_slash i h in
    let is = split i [] lacks tt in
    let r = not_rooted i [] lacks (dot_some i h) in (
      e ∙ sym (ap next_input (sym (append-nil i)) ∙ relative_input (i ++ []) i [] r is ∙ rw h refl),
      f ∙ sym (ap (λ u. next_output u o) (sym (append-nil i)) ∙ relative_output (i ++ []) i [] o r is ∙ rw h refl),
    )
step_is i o j p (begins s lacks some h k e f) =
    let is = split s j lacks k in
    let r = not_rooted s j lacks some in (
      sym (ap next_input e ∙ relative_input (s ++ j) s j r is ∙ rw h refl),
      f ∙ sym (ap (λ u. next_output u o) e ∙ relative_output (s ++ j) s j o r is ∙ rw h refl),
    )
step_is i o j p (moves s lacks h k e f) =
    let n = neither s h in (
      sym (ap next_input e ∙ rooted_input s j lacks k ∙ rw h refl),
      f ∙ sym (ap (λ u. next_output u o) e ∙ rooted_output s j o lacks k ∙ rw (n.0, n.1) refl),
    )

-- the steps leave no choice
pub one_step : (i o j p k q : List ℕ) → Step i o j p → Step i o k q → (j ≡ k) × (p ≡ q)
one_step i o j p k q s t = let x = step_is i o j p s in let y = step_is i o k q t in (x.0 ∙ sym y.0, x.1 ∙ sym y.1)

-- ---- each step makes the input shorter

length-slashed : (d rest : List ℕ) → 0 < length d → length (slashed rest) ≤ length (d ++ rest)
length-slashed d [] n = let e : length (d ++ []) ≡ length d = ap length (append-nil d) in omega (arith, e)
length-slashed d (b ∷ t) n = omega (arith, length-append d (b ∷ t))

pub shorter : (i o j p : List ℕ) → Step i o j p → length j < length i
shorter i o j p (drops d h e f) = omega (arith, ap length e, length-append d (slash ∷ j))
shorter i o j p (stays d rest h k e f g) = omega (arith, ap length e, ap length f, length-slashed d rest (dot_some d (single_dot d h)))
shorter i o j p (double_dots d rest h k e f g) = omega (arith, ap length e, ap length f, length-slashed d rest (dot_some d (double_dot d h)))
shorter i o j p (ends h e f) = omega (arith, ap length e, dot_some i h)
shorter i o j p (begins s lacks some h k e f) = omega (arith, ap length e, length-append s j)
shorter i o j p (moves s lacks h k e f) = omega (arith, ap length e, length-append s j)

-- no step begins at the empty input
no_step : (o j p : List ℕ) → Step [] o j p → ⊥
no_step o j p s = omega (arith, shorter [] o j p s)

-- the steps end in one output
pub one_output : {u v i o : List ℕ} → Reaches u i o → Reaches v i o → u ≡ v
one_output done done = refl
one_output done (more s r) = absurd (no_step _ _ _ s)
one_output (more s r) done = absurd (no_step _ _ _ s)
one_output {u} {v} (more {i} {o} {j} {p} s r) (more {j = k} {p = q} t w) =
    let e = one_step i o j p k q s t in
    one_output r (subst (λ x. Reaches v x p) (sym e.0) (subst (λ x. Reaches v k x) (sym e.1) w))
