-- Paths without dot segments in a directory, compared from the front.
use Rattle.std.proofs.Common.{◌≡◌, ◌↔◌, ℕ, ◌<◌, Bool, true, false, not, List, [], ◌∷◌, ◌++◌, length, map, drop, refl, sym, ap, ◌∙◌, subst, arith, ◌&&◌}
use Rattle.std.specs.Prelude.{IsTrue}
use Rattle.std.proofs.lemmas.Bool.{cond-false, false≢true, not-true}
use Rattle.uriparse_text.specs.Canonical.{canonical}
use Rattle.uriparse_path.specs.Dots.{all_but_last, has_dot_segment}
use Rattle.uriparse_path.specs.Normal.{pnormal}
use Rattle.uriparse_path.specs.Path.{IsListed}
use Rattle.uriparse_path.specs.Within.{AreWithin, HasDirectory, IsPathWithin, between_slashes, has_ambiguous, removes_unclear}
use Rattle.uriparse_path.proofs.lemmas.left.PathWithinLemmas.{but_last, length_mapped, same_cut}
use Rattle.uriparse_path.proofs.lemmas.left.RemovedLemmas.{plain_removes}

-- ---- segments that are compared from the front

first_item : List (List ℕ) → List ℕ
first_item [] = []
first_item (s ∷ ss) = s

pub first_alike : (left more lefts mores rest : List (List ℕ)) (s t : List ℕ) → left ≡ s ∷ lefts → more ≡ t ∷ mores
    → map canonical left ≡ map canonical more ++ rest → canonical s ≡ canonical t
unfolding first_item
first_alike left more lefts mores rest s t e f h =
    ap first_item (sym (ap (map canonical) e) ∙ h ∙ ap (λ l. map canonical l ++ rest) f)

pub others_alike : (left more lefts mores rest : List (List ℕ)) (s t : List ℕ) → left ≡ s ∷ lefts → more ≡ t ∷ mores → canonical s ≡ canonical t
    → (map canonical left ≡ map canonical more ++ rest) ↔ (map canonical lefts ≡ map canonical mores ++ rest)
others_alike left more lefts mores rest s t e f same = (
  λ h. ap (drop 1) (sym (ap (map canonical) e) ∙ h ∙ ap (λ l. map canonical l ++ rest) f),
  λ h. ap (map canonical) e ∙ ap (λ x. x ∷ map canonical lefts) same ∙ ap (λ l. canonical t ∷ l) h ∙ sym (ap (λ l. map canonical l ++ rest) f),
)

pub none_alike : (left more mores rest : List (List ℕ)) (t : List ℕ) → left ≡ [] → more ≡ t ∷ mores → map canonical left ≡ map canonical more ++ rest → ⊥
none_alike left more mores rest t e f h =
    let sizes : 0 ≡ length (canonical t ∷ (map canonical mores ++ rest)) =
    ap length (sym (ap (map canonical) e) ∙ h ∙ ap (λ l. map canonical l ++ rest) f) in
    absurd (omega (arith, sizes))

-- the segments after a directory
pub rest_below : (ss bs ds rest : List (List ℕ)) (last : List ℕ) (r : Bool) → bs ≡ ds ++ last ∷ [] → map canonical ss ≡ map canonical ds ++ map canonical rest
    → IsTrue r ↔ ((0 < length rest) × (has_ambiguous (map canonical rest) ≡ false)) → IsTrue r ↔ HasDirectory (map canonical ss) (all_but_last (map canonical bs))
rest_below ss bs ds rest last r e whole iff =
    let cut = but_last bs ds last e in (
      λ h. let is = iff.0 h in record {
        rest = map canonical rest;
        begins = whole ∙ ap (λ l. l ++ map canonical rest) (sym cut);
        some = omega (arith, length_mapped rest, is.0);
        plain = is.1;
      },
      λ d.
          let same = same_cut (map canonical ds) (map canonical rest) (map canonical ds) d.rest (sym whole ∙ d.begins ∙ ap (λ l. l ++ d.rest) cut) refl in
          iff.1 (omega (arith, length_mapped rest, ap length same.1, d.some), ap has_ambiguous same.1 ∙ d.plain),
    )

pub none_below : (ss bs ds : List (List ℕ)) (last : List ℕ) → bs ≡ ds ++ last ∷ []
    → ((rest : List (List ℕ)) → map canonical ss ≡ map canonical ds ++ rest → ⊥) → IsTrue false ↔ HasDirectory (map canonical ss) (all_but_last (map canonical bs))
none_below ss bs ds last e none = (
  λ h. absurd (false≢true h),
  λ d. absurd (none d.rest (d.begins ∙ ap (λ l. l ++ d.rest) (but_last bs ds last e))),
)

-- ---- absolute paths

pub plain_normal : (ss : List (List ℕ)) → has_dot_segment ss ≡ false
    → between_slashes (pnormal (record { absolute = true; segments = ss }) false) ≡ [] ∷ map canonical ss
plain_normal ss h = ap between_slashes (cond-false (has_dot_segment ss) _ _ h)

some_mapped : (bs : List (List ℕ)) → 0 < length bs → (x : List ℕ) × (xs : List (List ℕ)) × (map canonical bs ≡ x ∷ xs)
some_mapped [] some = absurd (omega (arith, some))
some_mapped (b ∷ bs) some = (canonical b, map canonical bs, refl)

rooted_iff : (ps bs : List (List ℕ)) (x : List ℕ) (xs : List (List ℕ)) → bs ≡ x ∷ xs → HasDirectory ps (all_but_last bs) ↔ AreWithin ([] ∷ ps) ([] ∷ bs)
rooted_iff ps bs x xs e =
    let cut : all_but_last ([] ∷ bs) ≡ [] ∷ all_but_last bs = ap (λ l. all_but_last ([] ∷ l)) e ∙ ap (λ l. [] ∷ all_but_last l) (sym e) in (
      λ d. record {
        rest = d.rest;
        begins = ap (λ l. [] ∷ l) d.begins ∙ ap (λ l. l ++ d.rest) (sym cut);
        some = d.some;
        plain = d.plain;
        alone = λ one. let size = ap length e in absurd (omega (arith, one, size));
      },
      λ w. record { rest = w.rest; begins = ap (drop 1) (w.begins ∙ ap (λ l. l ++ w.rest) cut); some = w.some; plain = w.plain },
    )

-- the directory of an absolute path without dot segments, and another such path
rooted_within : (ss bs : List (List ℕ)) (r : Bool) → IsListed ss → IsListed bs → has_dot_segment ss ≡ false → has_dot_segment bs ≡ false
    → IsTrue r ↔ HasDirectory (map canonical ss) (all_but_last (map canonical bs))
    → IsTrue r ↔ (IsPathWithin (pnormal (record { absolute = true; segments = ss }) false) (pnormal (record { absolute = true; segments = bs }) false)
    × (removes_unclear (record { absolute = true; segments = ss }) ≡ false))
rooted_within ss bs r is iss h k iff =
    let some = some_mapped bs iss.some in
    let rooted = rooted_iff (map canonical ss) (map canonical bs) some.0 some.1 some.2 in
    let one = plain_normal ss h in
    let other = plain_normal bs k in
    let clear = plain_removes ss is.each h in (
      λ e. (
        subst (λ l. AreWithin l (between_slashes (pnormal (record { absolute = true; segments = bs }) false))) (sym one)
            (subst (λ l. AreWithin ([] ∷ map canonical ss) l) (sym other) (rooted.0 (iff.0 e))),
        clear,
      ),
      λ w. iff.1 (rooted.1 (subst (λ l. AreWithin l ([] ∷ map canonical bs)) one
          (subst (λ l. AreWithin (between_slashes (pnormal (record { absolute = true; segments = ss }) false)) l) other w.0))),
    )

pub plain_within : (a b : Bool) (ss bs : List (List ℕ)) (r : Bool) → IsListed ss → IsListed bs → (a && not (has_dot_segment ss)) ≡ true
    → (b && not (has_dot_segment bs)) ≡ true → IsTrue r ↔ HasDirectory (map canonical ss) (all_but_last (map canonical bs))
    → IsTrue r ↔ (IsPathWithin (pnormal (record { absolute = a; segments = ss }) false) (pnormal (record { absolute = b; segments = bs }) false)
    × (removes_unclear (record { absolute = a; segments = ss }) ≡ false))
plain_within true true ss bs r is iss h k iff = rooted_within ss bs r is iss (not-true (has_dot_segment ss) h) (not-true (has_dot_segment bs) k) iff
plain_within true false ss bs r is iss h k iff = absurd (false≢true k)
plain_within false b ss bs r is iss h k iff = absurd (false≢true h)
