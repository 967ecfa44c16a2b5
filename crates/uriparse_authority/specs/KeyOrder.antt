-- Orders of values by their keys, which agree with equality by these keys: the laws of `Ord`, for values whose components are read from the key.
-- No clause needs more of them than `key_cmp`.
use Rattle.std.proofs.Common.{refl, sym, ap, ◌∙◌}
use Rattle.std.specs.Prelude.{◌≡◌, ℕ, Bool, true, false, ◌&&◌, List, bytes_eq}
use Rattle.std.specs.Cmp.{IsTotalOrder, IsPartialOrder, on_total, po, then_total, tied_itself, tied_then}
use Rattle.std.specs.Cmp.Lexicographic.{slice_cmp, bytes_decides, nat_list_cmp_total, texts_ties}
use Rattle.std.specs.Ordering.{as_partial_cmp, eq_by_cmp, is_eq, nat_cmp, on, ordering_then}
use Rattle.std.specs.declared.cmp.Ordering.{Ordering}
use Rattle.std.specs.declared.cmp.Ordering.TheVariants.{Less, Equal, Greater}

-- what is made of two keys decides, and else their numbers
abbrev pub key_cmp : {X : Type 0} → (List ℕ → X) → (X → X → Ordering) → List ℕ → List ℕ → Ordering
key_cmp make R k l = ordering_then (R (make k) (make l)) (slice_cmp nat_cmp k l)

module _ {X : Type 0} (make : List ℕ → X) (R : X → X → Ordering) where
  pub key_is : (k l : List ℕ) → R (make k) (make l) ≡ Equal → k ≡ l → Equal ≡ key_cmp make R k l
  key_is k l e same =
      sym (ap (λ o. ordering_then o (slice_cmp nat_cmp k l)) e ∙ ap (slice_cmp nat_cmp k) (sym same) ∙ tied_itself nat_list_cmp_total k)

  pub by_key : (k l : List ℕ) (o : Ordering) → R (make k) (make l) ≡ o → (o ≡ Equal → k ≡ l) → o ≡ key_cmp make R k l
  by_key k l Less e same = sym (ap (λ o. ordering_then o (slice_cmp nat_cmp k l)) e)
  by_key k l Equal e same = key_is k l e (same refl)
  by_key k l Greater e same = sym (ap (λ o. ordering_then o (slice_cmp nat_cmp k l)) e)

  module _ (total : IsTotalOrder R) where
    pub key_total : IsTotalOrder (key_cmp make R)
    key_total = then_total (on_total make total) nat_list_cmp_total

    never : (a : Bool) → (a && false) ≡ false
    never true = refl
    never false = refl

    by_test : (k l : List ℕ) (v : Bool) → bytes_eq k l ≡ v → v ≡ is_eq (key_cmp make R k l)
    by_test k l true h =
        let same = (bytes_decides k l).0 h in
        ap is_eq (key_is k l (ap (R (make k)) (ap make (sym same)) ∙ tied_itself total (make k)) same)
    by_test k l false h =
        sym (sym (tied_then (R (make k) (make l)) (slice_cmp nat_cmp k l))
        ∙ ap (λ b. is_eq (R (make k) (make l)) && b) (sym (texts_ties k l) ∙ h) ∙ never (is_eq (R (make k) (make l))))

    pub key_ties : (k l : List ℕ) → bytes_eq k l ≡ is_eq (key_cmp make R k l)
    key_ties k l = by_test k l (bytes_eq k l) refl

    module _ {K : Type 0} (f : K → List ℕ) where
      pub keyed_total : IsTotalOrder (on f (key_cmp make R))
      keyed_total = on_total f key_total

      pub keyed_ties : (x y : K) → on f bytes_eq x y ≡ eq_by_cmp (on f (key_cmp make R)) x y
      keyed_ties x y = key_ties (f x) (f y)

      pub keyed_po : IsPartialOrder (on f bytes_eq) (as_partial_cmp (on f (key_cmp make R)))
      keyed_po = po keyed_total keyed_ties
