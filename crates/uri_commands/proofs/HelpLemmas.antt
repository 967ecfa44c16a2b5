-- What `uri help` prints.
use Rattle.std.proofs.Common.{ℕ, ◌≡◌, ◌+◌, zero, suc, true, false, cond, List, [], ◌∷◌, drop, Option, Some, None, refl, sym, ap, subst, ◌∙◌}
use Rattle.std.specs.Borrow.{Bor}
use Rattle.std.specs.List.{find, slice_get}
use Rattle.std.specs.Option.{option_map}
use Rattle.std.specs.Prelude.{MatchOption, bytes_eq}
use Rattle.std.proofs.lemmas.List.{drop_more}
use Rattle.std.proofs.lemmas.Option.{get_or_from_slice_get, slice_get_within}
use Rattle.uri_commands.specs.Help.{Topic, page_on, topics}
use Rattle.uri_commands.specs.Output.{HelpsOn, Printed, Unknown}

-- a topic as the code has it
abbrev Told : Type 0
Told = Bor (Bor (List ℕ) × Bor (List ℕ))

abbrev told : Told → Topic
told t = record { name = t.now.0.now; page = t.now.1.now }

next_left : {X : Type 0} (xs : List X) (i : ℕ) (x : X) → slice_get xs i ≡ Some x → drop i xs ≡ x ∷ drop (i + 1) xs
next_left xs i x is =
    drop_more xs i x (slice_get_within xs i x is) ∙ ap (λ y. y ∷ drop (i + 1) xs) (get_or_from_slice_get xs i x x is)

none_left : {X : Type 0} (xs : List X) (i : ℕ) → slice_get xs i ≡ None → drop i xs ≡ []
none_left [] zero is = refl
none_left [] (suc i) is = refl
none_left (x ∷ xs) zero is = let no : ⊥ = cc in absurd no
none_left (x ∷ xs) (suc i) is = none_left xs i is

-- the topics from a place on, after one of them and at the end
topics_left : (place : ℕ) (r : Option Told) (t : Told) → option_map told r ≡ slice_get topics place → r ≡ Some t → drop place topics ≡ told t ∷ drop (place + 1) topics
topics_left place r t reads is = next_left topics place (told t) (sym reads ∙ ap (option_map told) is)

topics_end : (place : ℕ) (r : Option Told) → option_map told r ≡ slice_get topics place → r ≡ None → drop place topics ≡ []
topics_end place r reads is = none_left topics place (sym reads ∙ ap (option_map told) is)

-- ---- help NAME

-- the first topic of this name among these
abbrev pub named : List ℕ → List Topic → Option Topic
named name ts = find (λ t. bytes_eq t.name name) ts

pub other_name : (name : List ℕ) (place : ℕ) (r : Option Told) (t : Told) → option_map told r ≡ slice_get topics place → r ≡ Some t
    → bytes_eq t.now.0.now name ≡ false → named name (drop place topics) ≡ named name topics → named name (drop (place + 1) topics) ≡ named name topics
other_name name place r t reads is other before =
    sym (ap (named name) (topics_left place r t reads is) ∙ ap (λ b. cond b (Some (told t)) (named name (drop (place + 1) topics))) other) ∙ before

pub same_name : (name : List ℕ) (place : ℕ) (r : Option Told) (t : Told) → option_map told r ≡ slice_get topics place → r ≡ Some t
    → bytes_eq t.now.0.now name ≡ true → named name (drop place topics) ≡ named name topics → page_on name ≡ Some t.now.1.now
same_name name place r t reads is same before =
    ap (option_map (λ x. x.page))
    (sym before ∙ ap (named name) (topics_left place r t reads is) ∙ ap (λ b. cond b (Some (told t)) (named name (drop (place + 1) topics))) same)

pub no_name : (name : List ℕ) (place : ℕ) (r : Option Told) → option_map told r ≡ slice_get topics place → r ≡ None
    → named name (drop place topics) ≡ named name topics → page_on name ≡ None
no_name name place r reads is before =
    ap (option_map (λ x. x.page)) (sym before ∙ ap (named name) (topics_end place r reads is))

pub helped : (name page : List ℕ) → page_on name ≡ Some page → HelpsOn name (Printed page)
helped name page is = subst (λ o. MatchOption o (Printed page ≡ Unknown) (λ p. Printed page ≡ Printed p)) (sym is) refl

pub not_helped : (name : List ℕ) → page_on name ≡ None → HelpsOn name Unknown
not_helped name is = subst (λ o. MatchOption o (Unknown ≡ Unknown) (λ p. Unknown ≡ Printed p)) (sym is) refl
