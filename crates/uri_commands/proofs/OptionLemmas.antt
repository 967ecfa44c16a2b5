-- Options at the front of words.
use Rattle.std.proofs.Common.{ℕ, ◌≡◌, ◌+◌, ◌-◌, ◌<◌, ◌≤◌, ◌^◌, zero, suc, Bool, true, false, cond, ◌&&◌, ◌==◌, nat_lt, List, [], ◌∷◌, drop, length, map, take, Option, Some, None, Result, Ok, Err, refl, sym, ap, ◌∙◌, arith}
use Rattle.std.proofs.lemmas.Bool.{and_from, eqb-true, and_parts, false≢true, le-leb, leb-true, lt-ltb, ltb-true}
use Rattle.std.proofs.lemmas.Fmt.{decimal_is_IsNumeral}
use Rattle.std.proofs.lemmas.List.{drop-drop, drop-map, length-drop, take_all}
use Rattle.std.proofs.lemmas.Slice.Eq.{bytes_eq-Decides}
use Rattle.std.proofs.lemmas.Str.{digit_value_digit}
use Rattle.std.proofs.lemmas.Str.Parse.{digit_from_value}
use Rattle.std.specs.Borrow.{Bor}
use Rattle.std.specs.Char.{digit_value, is_ascii_digit}
use Rattle.std.specs.List.{list_all}
use Rattle.std.specs.Option.{SomeIff, option_and_then, option_map}
use Rattle.std.specs.Prelude.{OkIff, bytes_eq, codes, decimal, if◌then◌else◌, unwrap_or}
use Rattle.std.specs.Result.{result_ok}
use Rattle.std.specs.Str.Parse.{AllDigits, IsNumeral, digits_value, without_leading_plus}
use Rattle.uri_commands.specs.Options.{column_of, fields_before, first_option, number_of, read, with_column, with_option}
use Rattle.uri_commands.specs.declared.options.Options.{Options}

-- ---- the number of a column

digit_below : (c : ℕ) → is_ascii_digit c ≡ true → digit_value c < 10
digit_below c is =
    let range = and_parts _ _ is in
    let above = leb-true 48 c range.0 in
    let below = leb-true c 57 range.1 in
    omega (arith, digit_value_digit c (above, below))

below_digit : (c : ℕ) → digit_value c < 10 → is_ascii_digit c ≡ true
below_digit c below = let range = digit_from_value c below in and_from _ _ (le-leb 48 c range.0) (le-leb c 57 range.1)

digits_below : (ds : List ℕ) → list_all is_ascii_digit ds ≡ true → AllDigits 10 ds
digits_below [] all = tt
digits_below (d ∷ ds) all = let both = and_parts _ _ all in (digit_below d both.0, digits_below ds both.1)

below_digits : (ds : List ℕ) → AllDigits 10 ds → list_all is_ascii_digit ds ≡ true
below_digits [] all = refl
below_digits (d ∷ ds) all = and_from _ _ (below_digit d all.0) (below_digits ds all.1)

pub numbered : {E : Type 0} (ds : List ℕ) (r : Result ℕ E) → OkIff r (IsNumeral 10 ds × (digits_value 10 ds < 2 ^ 64)) (digits_value 10 ds)
    → result_ok r ≡ number_of ds
numbered [] (Ok n) is = absurd (omega (arith, is.0.0.0))
numbered [] (Err e) is = refl
numbered (d ∷ ds) (Ok n) is =
    let fits = and_from _ _ (below_digits (d ∷ ds) is.0.0.1) (lt-ltb (digits_value 10 (d ∷ ds)) (2 ^ 64) is.0.1) in
    ap Some is.1 ∙ sym (ap (λ b. if b then Some (digits_value 10 (d ∷ ds)) else None) fits)
numbered (d ∷ ds) (Err e) is = by _ refl
  where
    by : (b : Bool) → (list_all is_ascii_digit (d ∷ ds) && nat_lt (digits_value 10 (d ∷ ds)) (2 ^ 64)) ≡ b → None ≡ (if b then Some (digits_value 10 (d ∷ ds)) else None)
    by true fits =
        let both = and_parts _ _ fits in
        absurd (is ((omega arith, digits_below (d ∷ ds) both.0), ltb-true (digits_value 10 (d ∷ ds)) (2 ^ 64) both.1))
    by false fits = refl

pub preceded : (n : ℕ) (r : Option ℕ) → SomeIff r (1 ≤ n) (n - 1) → r ≡ fields_before n
preceded zero None is = refl
preceded zero (Some k) is = absurd (omega (arith, is.0))
preceded (suc n) None is = absurd (is (omega arith))
preceded (suc n) (Some k) is = ap Some (omega (arith, is.1))

no_plus : (ds : List ℕ) → AllDigits 10 ds → without_leading_plus ds ≡ ds
no_plus [] all = refl
no_plus (d ∷ ds) all = by (d == 43) refl
  where
    by : (is : Bool) → (d == 43) ≡ is → drop (cond is 1 0) (d ∷ ds) ≡ d ∷ ds
    by true is = let plus : d ≡ 43 = eqb-true d 43 is in absurd (false≢true (ap is_ascii_digit (sym plus) ∙ below_digit d all.0))
    by false is = refl

pub numeral_column : (k : ℕ) → suc k < 2 ^ 64 → column_of (decimal (suc k)) ≡ Some k
numeral_column k fits =
    let is = decimal_is_IsNumeral (suc k) fits in
    let number : number_of (decimal (suc k)) ≡ Some (suc k) =
    sym (numbered {E = Unit {0}} (decimal (suc k)) (Ok (suc k)) ((is.0, omega (arith, is.1, fits)), sym is.1)) in
    ap (λ ds. option_and_then fields_before (number_of ds)) (no_plus (decimal (suc k)) is.0.1) ∙ ap (option_and_then fields_before) number

-- the bytes of words
abbrev pub bytes : List (Bor (List ℕ)) → List (List ℕ)
bytes words = map (λ w. w.now) words

-- ---- options at the front of words

column_is_no_option : (o : Options) (w : List ℕ) → bytes_eq w (codes "--column") ≡ true → with_option o w ≡ None
column_is_no_option o w is = ap (with_option o) ((bytes_eq-Decides w (codes "--column")).0 is)

-- the one option with two words, or else the other with one
abbrev chosen : Bool → Option Options → Option Options → Option (Options × ℕ)
chosen is x y = if is then option_map (λ p. (p, 2)) x else option_map (λ p. (p, 1)) y

abbrev Split : Type 0
Split = Options × List (List ℕ)

-- what was read, or else these words after these options
abbrev or_else : Options → List (List ℕ) → Option Split → Split
or_else o words x = unwrap_or x (o, words)

-- without an option at the front all words are left
read_ends : (o : Options) (words : List (List ℕ)) → first_option o words ≡ None → read o words ≡ (o, words)
read_ends o [] none = refl
read_ends o (w ∷ []) none = by (bytes_eq w (codes "--column")) (with_option o w) refl refl none
  where
    by : (is : Bool) (x : Option Options) → bytes_eq w (codes "--column") ≡ is → with_option o w ≡ x → chosen is None x ≡ None
        → ◌≡◌ {A = Split} (or_else o (w ∷ []) (option_map (λ p. (p, [])) x)) (o, w ∷ [])
    by is None column option none = refl
    by true (Some p) column option none = let no : ⊥ = cc (column_is_no_option o w column) in absurd no
    by false (Some p) column option none = let no : ⊥ = cc in absurd no
read_ends o (w ∷ v ∷ words) none = by (bytes_eq w (codes "--column")) (with_column o v) (with_option o w) none
  where
    by : (is : Bool) (x y : Option Options) → chosen is x y ≡ None
        → ◌≡◌ {A = Split} (or_else o (w ∷ v ∷ words) (if is then option_map (λ p. read p words) x else option_map (λ p. read p (v ∷ words)) y)) (o, w ∷ v ∷ words)
    by true None y none = refl
    by true (Some p) y none = let no : ⊥ = cc in absurd no
    by false x None none = refl
    by false x (Some p) none = let no : ⊥ = cc in absurd no

same_first : (p q : Options) (m n : ℕ) → ◌≡◌ {A = Option (Options × ℕ)} (Some (p, m)) (Some (q, n)) → (p ≡ q) × (m ≡ n)
same_first p q m n is =
    let pair : ◌≡◌ {A = Options × ℕ} (p, m) (q, n) = cc in
    (ap (λ (x : Options × ℕ). x.0) pair, ap (λ (x : Options × ℕ). x.1) pair)

-- an option at the front is read, and then those that follow it
goes : (o p : Options) (words : List (List ℕ)) (count : ℕ) → first_option o words ≡ Some (p, count) → read o words ≡ read p (drop count words)
goes o p [] count some = let no : ⊥ = cc in absurd no
goes o p (w ∷ []) count some = by (bytes_eq w (codes "--column")) (with_option o w) some
  where
    by : (is : Bool) (x : Option Options) → chosen is None x ≡ Some (p, count) → or_else o (w ∷ []) (option_map (λ p. (p, [])) x) ≡ read p (drop count (w ∷ []))
    by true x some = let no : ⊥ = cc in absurd no
    by false None some = let no : ⊥ = cc in absurd no
    by false (Some q) some = let same = same_first q p 1 count some in ap (λ x. read x []) same.0 ∙ ap (λ n. read p (drop n (w ∷ []))) same.1
goes o p (w ∷ v ∷ words) count some = by (bytes_eq w (codes "--column")) (with_column o v) (with_option o w) some
  where
    by : (is : Bool) (x y : Option Options) → chosen is x y ≡ Some (p, count)
        → or_else o (w ∷ v ∷ words) (if is then option_map (λ p. read p words) x else option_map (λ p. read p (v ∷ words)) y) ≡ read p (drop count (w ∷ v ∷ words))
    by true None y some = let no : ⊥ = cc in absurd no
    by true (Some q) y some = let same = same_first q p 2 count some in ap (λ x. read x words) same.0 ∙ ap (λ n. read p (drop n (w ∷ v ∷ words))) same.1
    by false x None some = let no : ⊥ = cc in absurd no
    by false x (Some q) some = let same = same_first q p 1 count some in ap (λ x. read x (v ∷ words)) same.0 ∙ ap (λ n. read p (drop n (w ∷ v ∷ words))) same.1

-- ---- words from a place on

-- as a slice has them
abbrev pub from : ℕ → List (Bor (List ℕ)) → List (Bor (List ℕ))
from at words = take (length words - at) (drop at words)

pub from_is : (at : ℕ) (words : List (Bor (List ℕ))) → from at words ≡ drop at words
from_is at words = take_all (length words - at) (drop at words) (omega (arith, length-drop at words))

pub within : (at count : ℕ) (words : List (Bor (List ℕ))) → at ≤ length words → count ≤ length (from at words) → at + count ≤ length words
within at count words low fits = omega (arith, ap length (from_is at words), length-drop at words)

pub read_goes : (o p : Options) (words : List (Bor (List ℕ))) (at count : ℕ) (all : Split) → read o (bytes (drop at words)) ≡ all
    → first_option o (bytes (from at words)) ≡ Some (p, count) → read p (bytes (drop (at + count) words)) ≡ all
read_goes o p words at count all before some =
    let some_here : first_option o (bytes (drop at words)) ≡ Some (p, count) = ap (λ ws. first_option o (bytes ws)) (sym (from_is at words)) ∙ some in
    let there : drop count (bytes (drop at words)) ≡ bytes (drop (at + count) words) = drop-map (λ w. w.now) count (drop at words) ∙ ap bytes (drop-drop count at words) in
    sym (ap (read p) there) ∙ sym (goes o p (bytes (drop at words)) count some_here) ∙ before

pub read_left : (o : Options) (words : List (Bor (List ℕ))) (at : ℕ) (all : Split) → read o (bytes (drop at words)) ≡ all
    → first_option o (bytes (from at words)) ≡ None → (o, bytes (from at words)) ≡ all
read_left o words at all before none =
    sym (read_ends o (bytes (from at words)) none) ∙ ap (λ ws. read o (bytes ws)) (from_is at words) ∙ before
