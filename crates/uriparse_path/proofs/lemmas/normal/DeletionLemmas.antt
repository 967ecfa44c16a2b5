-- Deletions lead from each list to one irreducible list.
use Rattle.std.proofs.Common.{◌≡◌, ◌↔◌, ℕ, Bool, true, false, cond, List, [], ◌∷◌, ◌++◌, refl, sym, ap, ◌∙◌, subst, ◌&&◌, append-nil, append_assoc}
use Rattle.std.specs.Prelude.{not, reverse}
use Rattle.std.proofs.lemmas.Bool.{false≢true}
use Rattle.std.proofs.lemmas.List.{reverse-append, reverse-reverse}
use Rattle.uriparse_path.specs.Dots.{is_single_dot, is_double_dot, is_dot_segment}
use Rattle.uriparse_path.specs.Relative.{Deletes, single, pair, Leads, done, more, IsIrreducible, IsRelNormal, put, put_all, reduced, finished, relative_normal}
use Rattle.uriparse_path.proofs.lemmas.dots.DotSegmentLemmas.{neither, not_both}

pub put_all-append : (stack a b : List (List ℕ)) → put_all stack (a ++ b) ≡ put_all (put_all stack a) b
put_all-append stack [] b = refl
put_all-append stack (s ∷ a) b = put_all-append (put stack s) a b

pub put_single : (stack : List (List ℕ)) (d : List ℕ) → is_single_dot d ≡ true → put stack d ≡ stack
put_single [] d h = rw h refl
put_single (t ∷ stack) d h = rw h refl

pub put_plain : (stack : List (List ℕ)) (s : List ℕ) → is_dot_segment s ≡ false → put stack s ≡ s ∷ stack
put_plain [] s h = let n = neither s h in rw (n.0) refl
put_plain (t ∷ stack) s h = let n = neither s h in rw (n.0, n.1) refl

put_pair : (stack : List (List ℕ)) (s d : List ℕ) → is_dot_segment s ≡ false → is_double_dot d ≡ true → put (put stack s) d ≡ stack
put_pair stack s d h k = ap (λ u. put u d) (put_plain stack s h) ∙ rw (not_both d k, k, h) refl

-- a deletion does not change what is left
deletes_same : (l m : List (List ℕ)) → Deletes l m → put_all [] l ≡ put_all [] m
deletes_same l m (single a b d h e f) =
    ap (put_all []) e ∙ put_all-append [] a (d ∷ b) ∙ ap (λ u. put_all u b) (put_single (put_all [] a) d h) ∙ sym (put_all-append [] a b)
    ∙ ap (put_all []) (sym f)
deletes_same l m (pair a b s d h k e f) =
    ap (put_all []) e ∙ put_all-append [] a (s ∷ d ∷ b) ∙ ap (λ u. put_all u b) (put_pair (put_all [] a) s d h k) ∙ sym (put_all-append [] a b)
    ∙ ap (put_all []) (sym f)

leads_same : {m l : List (List ℕ)} → Leads m l → put_all [] l ≡ put_all [] m
leads_same done = refl
leads_same (more {l = l} {k = k} s r) = deletes_same l k s ∙ leads_same r

-- ---- an irreducible list is what is left of it

reverse_on : (stack ss : List (List ℕ)) (s : List ℕ) → reverse (s ∷ stack) ++ ss ≡ reverse stack ++ s ∷ ss
reverse_on stack ss s = ap (λ u. u ++ ss) (reverse-append (s ∷ []) stack) ∙ append_assoc (reverse stack) (s ∷ []) ss

-- a list with a deletion is not irreducible
no_single : (stack ss : List (List ℕ)) (s : List ℕ) → IsIrreducible (reverse stack ++ s ∷ ss) → is_single_dot s ≡ true → ⊥
no_single stack ss s h e = h (reverse stack ++ ss) (single (reverse stack) ss s e refl refl)

no_pair : (stack ss : List (List ℕ)) (t s : List ℕ) → IsIrreducible (reverse (t ∷ stack) ++ s ∷ ss) → is_double_dot s ≡ true → is_dot_segment t ≡ false → ⊥
no_pair stack ss t s h e f = h (reverse stack ++ ss) (pair (reverse stack) ss t s f e (reverse_on stack (s ∷ ss) t) refl)

-- if nothing can be deleted, the segment is put on the stack
put_kept : (stack ss : List (List ℕ)) (s : List ℕ) → IsIrreducible (reverse stack ++ s ∷ ss) → put stack s ≡ s ∷ stack
put_kept [] ss s h = by_single (is_single_dot s) refl
  where
    by_single : (v : Bool) → is_single_dot s ≡ v → cond v [] (s ∷ []) ≡ s ∷ []
    by_single true e = absurd (no_single [] ss s h e)
    by_single false e = refl
put_kept (t ∷ stack) ss s h = by_kind (is_single_dot s) refl (is_double_dot s) refl (is_dot_segment t) refl
  where
    by_kind : (v : Bool) → is_single_dot s ≡ v → (w : Bool) → is_double_dot s ≡ w → (x : Bool) → is_dot_segment t ≡ x
        → cond v (t ∷ stack) (cond (w && not x) stack (s ∷ t ∷ stack)) ≡ s ∷ t ∷ stack
    by_kind true e w f x g = absurd (no_single (t ∷ stack) ss s h e)
    by_kind false e true f false g = absurd (no_pair stack ss t s h f g)
    by_kind false e true f true g = refl
    by_kind false e false f x g = refl

kept : (stack ss : List (List ℕ)) → IsIrreducible (reverse stack ++ ss) → reverse (put_all stack ss) ≡ reverse stack ++ ss
kept stack [] h = sym (append-nil (reverse stack))
kept stack (s ∷ ss) h =
    let e = put_kept stack ss s h in
    let k : IsIrreducible (reverse (s ∷ stack) ++ ss) = subst IsIrreducible (sym (reverse_on stack ss s)) h in
    ap (λ u. reverse (put_all u ss)) e ∙ kept (s ∷ stack) ss k ∙ reverse_on stack ss s

-- the irreducible list that a list leads to is what is left of it, so there is one at most
pub leads_to_reduced : (l m : List (List ℕ)) → Leads m l → IsIrreducible m → m ≡ reduced l
leads_to_reduced l m r h = sym (kept [] m h) ∙ ap reverse (sym (leads_same r))

-- ---- each list leads to what is left of it

leads_put : (stack ss : List (List ℕ)) → Leads (reverse (put_all stack ss)) (reverse stack ++ ss)
leads_put stack [] = subst (λ l. Leads (reverse stack) l) (sym (append-nil (reverse stack))) done
leads_put [] (s ∷ ss) = by_single (is_single_dot s) refl (leads_put [] ss) (leads_put (s ∷ []) ss)
  where
    by_single : (v : Bool) → is_single_dot s ≡ v → Leads (reverse (put_all [] ss)) ss → Leads (reverse (put_all (s ∷ []) ss)) (s ∷ ss)
        → Leads (reverse (put_all (cond v [] (s ∷ [])) ss)) (s ∷ ss)
    by_single true e f g = more (single [] ss s e refl refl) f
    by_single false e f g = g
leads_put (t ∷ stack) (s ∷ ss) =
    by_kind (is_single_dot s) refl (is_double_dot s) refl (is_dot_segment t) refl (leads_put (t ∷ stack) ss) (leads_put stack ss)
    (subst (λ l. Leads (reverse (put_all (s ∷ t ∷ stack) ss)) l) (reverse_on (t ∷ stack) ss s) (leads_put (s ∷ t ∷ stack) ss))
  where
    by_kind : (v : Bool) → is_single_dot s ≡ v → (w : Bool) → is_double_dot s ≡ w → (x : Bool) → is_dot_segment t ≡ x
        → Leads (reverse (put_all (t ∷ stack) ss)) (reverse (t ∷ stack) ++ ss)
        → Leads (reverse (put_all stack ss)) (reverse stack ++ ss)
        → Leads (reverse (put_all (s ∷ t ∷ stack) ss)) (reverse (t ∷ stack) ++ s ∷ ss)
        → Leads (reverse (put_all (cond v (t ∷ stack) (cond (w && not x) stack (s ∷ t ∷ stack))) ss)) (reverse (t ∷ stack) ++ s ∷ ss)
    by_kind true e w f x g a b c = more (single (reverse (t ∷ stack)) ss s e refl refl) a
    by_kind false e true f false g a b c = more (pair (reverse stack) ss t s g f (reverse_on stack (s ∷ ss) t) refl) b
    by_kind false e true f true g a b c = c
    by_kind false e false f x g a b c = c

-- ---- what is left is irreducible

-- nothing on the stack can be deleted
abbrev IsStable : List (List ℕ) → Type 0
IsStable [] = Unit {0}
IsStable (s ∷ []) = is_single_dot s ≡ false
IsStable (s ∷ t ∷ stack) = (is_single_dot s ≡ false) × (is_double_dot s ≡ true → is_dot_segment t ≡ true) × IsStable (t ∷ stack)

stable_tail : (s : List ℕ) (stack : List (List ℕ)) → IsStable (s ∷ stack) → IsStable stack
stable_tail s [] h = tt
stable_tail s (t ∷ stack) h = h.2

stable_head : (s : List ℕ) (stack : List (List ℕ)) → IsStable (s ∷ stack) → is_single_dot s ≡ false
stable_head s [] h = h
stable_head s (t ∷ stack) h = h.0

put_stable : (stack : List (List ℕ)) (s : List ℕ) → IsStable stack → IsStable (put stack s)
put_stable [] s h = by_single (is_single_dot s) refl
  where
    by_single : (v : Bool) → is_single_dot s ≡ v → IsStable (cond v [] (s ∷ []))
    by_single true e = tt
    by_single false e = e
put_stable (t ∷ stack) s h = by_kind (is_single_dot s) refl (is_double_dot s) refl (is_dot_segment t) refl
  where
    by_kind : (v : Bool) → is_single_dot s ≡ v → (w : Bool) → is_double_dot s ≡ w → (x : Bool) → is_dot_segment t ≡ x
        → IsStable (cond v (t ∷ stack) (cond (w && not x) stack (s ∷ t ∷ stack)))
    by_kind true e w f x g = h
    by_kind false e true f false g = stable_tail t stack h
    by_kind false e true f true g = (e, (λ _. g), h)
    by_kind false e false f x g = (e, (λ k. cc), h)

put_all_stable : (stack ss : List (List ℕ)) → IsStable stack → IsStable (put_all stack ss)
put_all_stable stack [] h = h
put_all_stable stack (s ∷ ss) h = put_all_stable (put stack s) ss (put_stable stack s h)

inside_single : (x y : List (List ℕ)) (d : List ℕ) → IsStable (x ++ d ∷ y) → is_single_dot d ≡ false
inside_single [] y d h = stable_head d y h
inside_single (s ∷ x) y d h = inside_single x y d (stable_tail s (x ++ d ∷ y) h)

inside_pair : (x y : List (List ℕ)) (d s : List ℕ) → IsStable (x ++ d ∷ s ∷ y) → is_double_dot d ≡ true → is_dot_segment s ≡ true
inside_pair [] y d s h = h.1
inside_pair (t ∷ x) y d s h = inside_pair x y d s (stable_tail t (x ++ d ∷ s ∷ y) h)

reverse_at : (a b : List (List ℕ)) (d : List ℕ) → reverse (a ++ d ∷ b) ≡ reverse b ++ d ∷ reverse a
reverse_at a b d = reverse-append a (d ∷ b) ∙ ap (λ u. u ++ reverse a) (reverse-append (d ∷ []) b) ∙ append_assoc (reverse b) (d ∷ []) (reverse a)

pub stable_irreducible : (stack : List (List ℕ)) → IsStable stack → IsIrreducible (reverse stack)
stable_irreducible stack h m (single a b d e f g) =
    let k : stack ≡ reverse b ++ d ∷ reverse a = sym (reverse-reverse stack) ∙ ap reverse f ∙ reverse_at a b d in
    let n : is_single_dot d ≡ false = inside_single (reverse b) (reverse a) d (subst IsStable k h) in
    false≢true (sym n ∙ e)
stable_irreducible stack h m (pair a b s d e f g k) =
    let n : stack ≡ reverse b ++ d ∷ s ∷ reverse a = sym (reverse-reverse stack) ∙ ap reverse g ∙ reverse_at a (d ∷ b) s
    ∙ ap (λ u. u ++ s ∷ reverse a) (reverse-append (d ∷ []) b) ∙ append_assoc (reverse b) (d ∷ []) (s ∷ reverse a) in
    let q : is_dot_segment s ≡ true = inside_pair (reverse b) (reverse a) d s (subst IsStable n h) f in
    false≢true (sym e ∙ q)

-- a list leads to one irreducible list, which is what is left of it
pub leads_iff : (l m : List (List ℕ)) → (Leads m l × IsIrreducible m) ↔ (m ≡ reduced l)
leads_iff l m = (
  λ h. leads_to_reduced l m h.0 h.1,
  λ e. subst (λ n. Leads n l × IsIrreducible n) (sym e) (leads_put [] l, stable_irreducible (put_all [] l) (put_all_stable [] l tt)),
)

-- the normal form of a relative path is one list, which is the function's
pub relnormal_iff : (l n : List (List ℕ)) → IsRelNormal l n ↔ (n ≡ relative_normal l)
unfolding relative_normal
relnormal_iff l n = (
  λ is. is.finished ∙ ap (finished l) (leads_to_reduced l is.left is.leads is.irreducible),
  λ e. let both = (leads_iff l (reduced l)).1 refl in record { left = reduced l; leads = both.0; irreducible = both.1; finished = e },
)
