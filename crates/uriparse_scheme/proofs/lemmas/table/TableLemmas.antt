-- Properties of each registered scheme, by computing the table.
use Rattle.std.proofs.Common.{◌≡◌, ◌↔◌, ℕ, ◌<◌, Bool, true, false, cond, List, [], ◌∷◌, length, get_or, Some, refl, sym, ap, ◌∙◌, subst, arith, ⊎_elim}
use Rattle.std.specs.Prelude.{bytes_eq}
use Rattle.std.specs.List.{find, slice_get, position_or_len}
use Rattle.std.specs.Ordering.{nat_cmp}
use Rattle.std.specs.declared.cmp.Ordering.TheVariants.{Less}
use Rattle.std.specs.Cmp.Lexicographic.{slice_cmp}
use Rattle.std.specs.Str.{str_to_ascii_lowercase}
use Rattle.std.proofs.lemmas.Bool.{cases_lt}
use Rattle.std.proofs.lemmas.Cmp.{nat_list_cmp_total, tied_itself}
use Rattle.std.proofs.lemmas.List.{get_or-map, length-map}
use Rattle.std.proofs.lemmas.List.Folds.{find_at}
use Rattle.std.proofs.lemmas.Option.{slice_get_within, get_or_from_slice_get}
use Rattle.std.proofs.lemmas.Slice.Eq.{bytes_eq-Decides}
use Rattle.uriparse_text.specs.Canonical.{canonical_lowered}
use Rattle.uriparse_scheme.specs.declared.scheme.registered.RegisteredScheme.{RegisteredScheme}
use Rattle.uriparse_scheme.specs.declared.scheme.registered.RegisteredScheme.TheVariants.{Microsoft}
use Rattle.uriparse_scheme.specs.declared.scheme.microsoft.MicrosoftScheme.TheVariants.{MSWord}
use Rattle.uriparse_scheme.specs.SchemeTable.{row_of, variants}
use Rattle.uriparse_scheme.specs.Registered.{names, registered_named, name_of}
use Rattle.uriparse_scheme.specs.Grammar.{is_scheme}
use Rattle.uriparse_scheme.proofs.lemmas.schemes.GrammarLemmas.{canonical_low_of_scheme}
use Rattle.uriparse_scheme.proofs.lemmas.table.SortedLemmas.{names_sorted, sorted_at}

-- ---- row by row: the first clause splits the rest into one case for each row

-- the name names the scheme
pub named_itself : (s : RegisteredScheme) → registered_named (name_of s) ≡ Some s
unfolding row_of variants
named_itself (Microsoft MSWord) = refl
named_itself s = refl

pub name_is_scheme : (s : RegisteredScheme) → is_scheme (name_of s) ≡ true
unfolding row_of
name_is_scheme (Microsoft MSWord) = refl
name_is_scheme s = refl

pub lowered-name : (s : RegisteredScheme) → str_to_ascii_lowercase (name_of s) ≡ name_of s
unfolding row_of
lowered-name (Microsoft MSWord) = refl
lowered-name s = refl

-- ---- what follows

pub canonical_name : (s : RegisteredScheme) → canonical_lowered (name_of s) ≡ name_of s
canonical_name s = canonical_low_of_scheme (name_of s) (name_is_scheme s) ∙ lowered-name s

-- the name of a registered scheme names it
pub named-name : (s : RegisteredScheme) → registered_named (str_to_ascii_lowercase (name_of s)) ≡ Some s
named-name s = ap registered_named (lowered-name s) ∙ named_itself s

-- schemes with the same name are equal
pub same_name : (a b : RegisteredScheme) → name_of a ≡ name_of b → a ≡ b
same_name a b e =
    let both : Some a ≡ Some b = sym (named_itself a) ∙ ap registered_named e ∙ named_itself b in cc

-- a test of names is one of canonical spellings
pub same_from_names : (a b : RegisteredScheme) → bytes_eq (name_of a) (name_of b) ≡ bytes_eq (canonical_lowered (name_of a)) (canonical_lowered (name_of b))
same_from_names a b = ap (λ n. bytes_eq n (name_of b)) (sym (canonical_name a)) ∙ ap (bytes_eq (canonical_lowered (name_of a))) (sym (canonical_name b))

-- what is found passes
passes : {A : Type 0} (p : A → Bool) (xs : List A) (x : A) → find p xs ≡ Some x → p x ≡ true
passes p [] x at = cc
passes p (y ∷ ys) x at = by (p y) refl at (passes p ys x)
  where
    by : (v : Bool) → p y ≡ v → cond v (Some y) (find p ys) ≡ Some x → (find p ys ≡ Some x → p x ≡ true) → p x ≡ true
    by true e h later = let same : y ≡ x = cc in ap p (sym same) ∙ e
    by false e h later = later h

-- a text names the registered scheme whose name is the text in lower case
pub named_iff : (t : List ℕ) (s : RegisteredScheme) → (registered_named (str_to_ascii_lowercase t) ≡ Some s) ↔ (str_to_ascii_lowercase t ≡ name_of s)
named_iff t s = (
  λ h. sym ((bytes_eq-Decides _ _).0 (passes (λ r. bytes_eq (name_of r) (str_to_ascii_lowercase t)) variants s h)),
  λ e. ap registered_named e ∙ named_itself s,
)

-- ---- the table as a whole

-- each registered scheme is in the table
pub listed : (s : RegisteredScheme) → (k : ℕ) × (slice_get variants k ≡ Some s)
listed s =
    let test = λ (r : RegisteredScheme). bytes_eq (name_of r) (name_of s) in
    (position_or_len test variants, sym (find_at test variants) ∙ named_itself s)

name_at : (k : ℕ) (s : RegisteredScheme) → slice_get variants k ≡ Some s → get_or names k [] ≡ name_of s
name_at k s at = get_or-map name_of variants k s [] (slice_get_within variants k s at) ∙ ap name_of (get_or_from_slice_get variants k s s at)

not_before : (j k : ℕ) (s : RegisteredScheme) → slice_get variants j ≡ Some s → slice_get variants k ≡ Some s → j < k → ⊥
not_before j k s at_j at_k lt =
    let within : k < length names = omega (arith, length-map variants name_of, slice_get_within variants k s at_k) in
    let less : slice_cmp nat_cmp (name_of s) (name_of s) ≡ Less =
    subst (λ n. slice_cmp nat_cmp n (name_of s) ≡ Less) (name_at j s at_j)
    (subst (λ n. slice_cmp nat_cmp (get_or names j []) n ≡ Less) (name_at k s at_k) (sorted_at names j k names_sorted lt within)) in
    let tied = tied_itself nat_list_cmp_total (name_of s) in
    cc

-- it is there once
pub listed_once : (j k : ℕ) (s : RegisteredScheme) → slice_get variants j ≡ Some s → slice_get variants k ≡ Some s → j ≡ k
listed_once j k s at_j at_k =
    ⊎_elim (λ lt. absurd (not_before j k s at_j at_k lt))
    (λ ge. ⊎_elim (λ gt. absurd (not_before k j s at_k at_j gt)) (λ le. omega arith) (cases_lt k j))
    (cases_lt j k)
