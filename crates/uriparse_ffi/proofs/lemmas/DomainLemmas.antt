-- The domains of a string, one after another.
use Rattle.std.proofs.Common.{◌≡◌, ◌⊎◌, ◌↔◌, ℕ, ◌<◌, Bool, true, false, not, cond, List, [], ◌∷◌, length, Option, Some, None, inl, inr, refl, sym, ap, ◌∙◌, arith}
use Rattle.std.specs.Prelude.{IsTrue, ◌||◌}
use Rattle.std.specs.List.{filter, onto_first, slice_split}
use Rattle.std.specs.Option.{option_or}
use Rattle.std.proofs.lemmas.List.Splits.{slice_split-cons_yes, slice_split-cons_no}
use Rattle.uriparse_text.specs.Bytes.{space}
use Rattle.uriparse_text.specs.Cuts.{after, before, from_first, part, up_to}
use Rattle.uriparse_text.specs.Readings.{fault_in}
use Rattle.uriparse_authority.specs.Host.{reading}
use Rattle.uriparse_authority.specs.Within.{is_empty}
use Rattle.uriparse_authority.specs.declared.authority.error.HostError.{HostError}
use Rattle.uriparse_reference.specs.Reference.{Parts}
use Rattle.uriparse_ffi.specs.Domains.{IsWithinDomain, IsWithinOne, domains, domains_left, first_error, is_space}

abbrev pub split_left : Option (List ℕ) → List (List ℕ)
split_left None = []
split_left (Some t) = slice_split is_space t

-- the first piece of a string, and those of what follows the space after it
split_cut : (t : List ℕ) → slice_split is_space t ≡ up_to is_space t ∷ split_left (part (from_first is_space t))
split_cut [] = refl
split_cut (b ∷ t) = at_byte (is_space b) refl (split_cut t)
  where
    at_byte : (v : Bool) → is_space b ≡ v → slice_split is_space t ≡ up_to is_space t ∷ split_left (part (from_first is_space t))
        → slice_split is_space (b ∷ t) ≡ cond v [] (b ∷ up_to is_space t) ∷ split_left (part (cond v (b ∷ t) (from_first is_space t)))
    at_byte true e rest = slice_split-cons_yes is_space b t e
    at_byte false e rest = slice_split-cons_no is_space b t e ∙ ap (onto_first b) rest

split_domains : (o : Option (List ℕ)) → filter (λ d. not (is_empty d)) (split_left o) ≡ domains_left o
split_domains None = refl
split_domains (Some t) = refl

pub fewer_left : (t : List ℕ) (o : Option (List ℕ)) → o ≡ after space t → length (split_left o) < length (split_left (Some t))
fewer_left t o e =
    let here : length (split_left o) ≡ length (split_left (after space t)) = ap (λ u. length (split_left u)) e in
    omega (arith, here, ap length (split_cut t))

-- the domains of a string: what precedes the first space, unless that is nothing, and those of what follows the space
pub domains_cut : (t d : List ℕ) (o : Option (List ℕ)) → d ≡ before space t → o ≡ after space t
    → domains t ≡ cond (not (is_empty d)) (d ∷ domains_left o) (domains_left o)
domains_cut t d o e k =
    ap (filter (λ d. not (is_empty d))) (split_cut t)
    ∙ ap (λ x. cond (not (is_empty x)) (x ∷ filter (λ d. not (is_empty d)) (split_left (after space t))) (filter (λ d. not (is_empty d)) (split_left (after space t)))) (sym e)
    ∙ ap (λ x. cond (not (is_empty d)) (d ∷ x) x) (split_domains (after space t) ∙ ap domains_left (sym k))

pub hollow : (d : List ℕ) → length d ≡ 0 → is_empty d ≡ true
hollow [] e = refl
hollow (b ∷ t) e = absurd (omega (arith, e))

pub filled : (d : List ℕ) → 0 < length d → is_empty d ≡ false
filled [] h = absurd (omega (arith, h))
filled (b ∷ t) h = refl

-- ---- what is found of them

-- of some domains, all those of a string are left, and whether one of these is found is known of the others
pub record IsFoundSo (p : Parts) (all left : List (List ℕ)) (found : Bool) : Type 0 where
  pub error : first_error left ≡ first_error all
  pub within : (IsTrue found ⊎ IsWithinOne p left) ↔ IsWithinOne p all

pub nothing_found : (p : Parts) (all : List (List ℕ)) → IsFoundSo p all all false
nothing_found p all = record { error = refl; within = (λ h. by_case h, λ h. inr h) }
  where
    by_case : IsTrue false ⊎ IsWithinOne p all → IsWithinOne p all
    by_case (inl e) = absurd (cc)
    by_case (inr h) = h

-- one more domain is looked at
pub one_more : (p : Parts) (all left : List (List ℕ)) (d : List ℕ) (found b : Bool) → fault_in (reading d) ≡ None → IsTrue b ↔ IsWithinDomain p d
    → IsFoundSo p all (d ∷ left) found → IsFoundSo p all left (found || b)
one_more p all left d found b fine tells so = record {
  error = sym (ap (λ o. option_or o (first_error left)) fine) ∙ so.error;
  within = (λ h. so.within.0 (forth found b tells h), λ h. back found b tells (so.within.1 h));
}
  where
    forth : (found b : Bool) → IsTrue b ↔ IsWithinDomain p d → IsTrue (found || b) ⊎ IsWithinOne p left → IsTrue found ⊎ IsWithinOne p (d ∷ left)
    forth true b tells h = inl refl
    forth false true tells h = inr (inl (tells.0 refl))
    forth false false tells (inl e) = absurd (cc)
    forth false false tells (inr h) = inr (inr h)

    back : (found b : Bool) → IsTrue b ↔ IsWithinDomain p d → IsTrue found ⊎ IsWithinOne p (d ∷ left) → IsTrue (found || b) ⊎ IsWithinOne p left
    back true b tells h = inl refl
    back false b tells (inl e) = absurd (cc)
    back false b tells (inr (inl h)) = inl (tells.1 h)
    back false b tells (inr (inr h)) = inr h

pub all_found : (p : Parts) (all : List (List ℕ)) (found : Bool) → IsFoundSo p all [] found → (first_error all ≡ None) × (IsTrue found ↔ IsWithinOne p all)
all_found p all found so = (sym so.error, (λ h. so.within.0 (inl h), λ h. by_case (so.within.1 h)))
  where
    by_case : IsTrue found ⊎ IsWithinOne p [] → IsTrue found
    by_case (inl e) = e
    by_case (inr h) = absurd h

-- the first error is that of the domain that has it first
pub error_found : (p : Parts) (all left : List (List ℕ)) (d : List ℕ) (found : Bool) (e : HostError) → fault_in (reading d) ≡ Some e
    → IsFoundSo p all (d ∷ left) found → first_error all ≡ Some e
error_found p all left d found e is so = sym so.error ∙ ap (λ o. option_or o (first_error left)) is
