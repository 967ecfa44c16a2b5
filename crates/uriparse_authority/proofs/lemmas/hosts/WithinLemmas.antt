-- The labels of names, and walks over their texts.
use Rattle.std.proofs.Common.{◌≡◌, ℕ, zero, suc, ◌+◌, ◌-◌, ◌<◌, Bool, true, false, cond, not, List, [], ◌∷◌, ◌++◌, length, drop, get_or, refl, sym, ap, ◌∙◌, subst, arith, ◌⊎◌, inl, inr}
use Rattle.std.specs.Prelude.{◌==◌, ◌&&◌, ◌||◌}
use Rattle.std.specs.Char.{is_ascii_digit, is_digit, to_ascii_lowercase, to_ascii_uppercase}
use Rattle.std.specs.List.{list_all, list_any, count_by, slice_split, onto_first, join_with_byte}
use Rattle.std.proofs.lemmas.Bool.{and_parts, and_from, not-true, false≢true, ne_eqb}
use Rattle.std.proofs.lemmas.Bool.Decides.{nat_tests}
use Rattle.std.proofs.lemmas.List.Folds.{list_any-append}
use Rattle.std.proofs.Math.Bool.{or-false}
use Rattle.std.proofs.lemmas.List.Splits.{slice_split-cons_yes, slice_split-cons_no, length-slice_split, join_with_byte-slice_split}
use Rattle.uriparse_text.specs.declared.internal.token.Token.TheVariants.{Byte, Escape}
use Rattle.uriparse_text.specs.declared.internal.token.Case.TheVariants.{Lowered}
use Rattle.uriparse_text.specs.Bytes.{dot, is_hex, is_unreserved, percent}
use Rattle.uriparse_text.specs.Canonical.{canonical_lowered, canonical_token, escaped_byte}
use Rattle.uriparse_text.specs.Tokens.{is_escape, is_token, is_well_formed, spell, tokens}
use Rattle.uriparse_text.proofs.lemmas.canonical.CanonicalLemmas.{canonical_in-cons, canonical_in-nil}
use Rattle.uriparse_text.proofs.lemmas.tokens.TokenLemmas.{escape_at, tokens-byte, tokens-escape}
use Rattle.uriparse_authority.specs.Within.{BeginsWithOctet, HasOctet, begins_with_digit, has_escape, is_dot, is_empty, is_percent}

-- "%2E", by its digits
abbrev pub is_escaped_dot : ℕ → ℕ → Bool
is_escaped_dot high low = high == 50 && (low == 69 || low == 101)

-- ---- pieces between dots

abbrev pub pieces : List ℕ → List (List ℕ)
pieces t = slice_split is_dot t

-- a text's first piece, and the others
pub record IsCut (t : List ℕ) : Type 0 where
  pub first : List ℕ
  pub others : List (List ℕ)
  pub parts : pieces t ≡ first ∷ others

pub cut : (t : List ℕ) → IsCut t
cut [] = record { first = []; others = []; parts = refl }
cut (b ∷ t) = at_byte (is_dot b) refl (cut t)
  where
    at_byte : (v : Bool) → is_dot b ≡ v → IsCut t → IsCut (b ∷ t)
    at_byte true e rest = record { first = []; others = pieces t; parts = slice_split-cons_yes is_dot b t e }
    at_byte false e rest = record {
      first = b ∷ rest.first;
      others = rest.others;
      parts = slice_split-cons_no is_dot b t e ∙ ap (onto_first b) rest.parts;
    }

abbrev pub LacksDot : List ℕ → Type 0
LacksDot s = list_all (λ b. not (is_dot b)) s ≡ true

-- bytes other than dots go to the first piece
pub pieces-front : (s t first : List ℕ) (others : List (List ℕ)) → LacksDot s → pieces t ≡ first ∷ others → pieces (s ++ t) ≡ (s ++ first) ∷ others
pieces-front [] t first others h e = e
pieces-front (b ∷ s) t first others h e =
    let both = and_parts _ _ h in
    slice_split-cons_no is_dot b (s ++ t) (not-true (is_dot b) both.0) ∙ ap (onto_first b) (pieces-front s t first others both.1 e)

pub joined-pieces : (t : List ℕ) → join_with_byte dot (pieces t) ≡ t
joined-pieces t = join_with_byte-slice_split dot t

pub pieces-injective : (t u : List ℕ) → pieces t ≡ pieces u → t ≡ u
pieces-injective t u e = sym (joined-pieces t) ∙ ap (join_with_byte dot) e ∙ joined-pieces u

-- whether a piece is empty, where the first one may have begun before
abbrev pub empties : Bool → List ℕ → Bool
empties begins u = list_any is_empty (cond begins (pieces u) (drop 1 (pieces u)))

-- ---- what a token does to them

module _ (octet : ℕ) (t rest : List ℕ) (is : BeginsWithOctet octet t rest) where
  pub pieces-dot : is_dot octet ≡ true → pieces (canonical_lowered t) ≡ [] ∷ pieces (canonical_lowered rest)
  pieces-dot e = ap pieces is.whole ∙ ap (λ s. pieces (s ++ canonical_lowered rest)) (is.has.single e)

  pub pieces-other : is_dot octet ≡ false → (c : IsCut (canonical_lowered rest)) → pieces (canonical_lowered t) ≡ (is.front ++ c.first) ∷ c.others
  pieces-other e c = ap pieces is.whole ∙ pieces-front is.front (canonical_lowered rest) c.first c.others (is.has.others e) c.parts

  pub count-dot : is_dot octet ≡ true → count_by is_dot (canonical_lowered t) ≡ count_by is_dot (canonical_lowered rest) + 1
  count-dot e =
      let more = length-slice_split is_dot (canonical_lowered t) in
      let less = length-slice_split is_dot (canonical_lowered rest) in
      let both = ap length (pieces-dot e) in
      omega (arith, more, less, both)

  pub count-other : is_dot octet ≡ false → count_by is_dot (canonical_lowered t) ≡ count_by is_dot (canonical_lowered rest)
  count-other e =
      let c = cut (canonical_lowered rest) in
      let more = length-slice_split is_dot (canonical_lowered t) in
      let less = length-slice_split is_dot (canonical_lowered rest) in
      let both = ap length (pieces-other e c) in
      let same = ap length c.parts in
      omega (arith, more, less, both, same)

  pub skip-dot : (n : ℕ) → 0 < n → is_dot octet ≡ true → drop (n - 1) (pieces (canonical_lowered rest)) ≡ drop n (pieces (canonical_lowered t))
  skip-dot zero some e = absurd (omega (arith, some))
  skip-dot (suc n) some e =
      let less : suc n - 1 ≡ n = omega arith in
      ap (λ k. drop k (pieces (canonical_lowered rest))) less ∙ sym (ap (drop (suc n)) (pieces-dot e))

  pub skip-other : (n : ℕ) → 0 < n → is_dot octet ≡ false → drop n (pieces (canonical_lowered rest)) ≡ drop n (pieces (canonical_lowered t))
  skip-other zero some e = absurd (omega (arith, some))
  skip-other (suc n) some e =
      let c = cut (canonical_lowered rest) in
      ap (drop (suc n)) c.parts ∙ sym (ap (drop (suc n)) (pieces-other e c))

  not_empty : (s u : List ℕ) → 0 < length s → is_empty (s ++ u) ≡ false
  not_empty [] u some = absurd (omega (arith, some))
  not_empty (b ∷ s) u some = refl

  pub empty-other : (begins : Bool) → is_dot octet ≡ false → empties false (canonical_lowered rest) ≡ empties begins (canonical_lowered t)
  empty-other begins e =
      let c = cut (canonical_lowered rest) in
      ap (λ ps. list_any is_empty (drop 1 ps)) c.parts ∙ by_begins begins c
      ∙ sym (ap (λ ps. list_any is_empty (cond begins ps (drop 1 ps))) (pieces-other e c))
    where
      by_begins : (v : Bool) (c : IsCut (canonical_lowered rest)) → list_any is_empty c.others ≡ list_any is_empty (cond v ((is.front ++ c.first) ∷ c.others) c.others)
      by_begins true c = ap (λ w. w || list_any is_empty c.others) (sym (not_empty is.front c.first is.has.some))
      by_begins false c = refl

  pub empty-dot : is_dot octet ≡ true → empties true (canonical_lowered rest) ≡ empties false (canonical_lowered t)
  empty-dot e = sym (ap (λ ps. list_any is_empty (drop 1 ps)) (pieces-dot e))

  pub empty-twice : is_dot octet ≡ true → true ≡ empties true (canonical_lowered t)
  empty-twice e = sym (ap (list_any is_empty) (pieces-dot e))

  pub is_46 : octet ≡ 46 → is_dot octet ≡ true
  is_46 e = ap is_dot e

  pub is_not_46 : (octet ≡ 46 → ⊥) → is_dot octet ≡ false
  is_not_46 n = ne_eqb octet dot n

  pub count-step : (octet ≡ 46 → ⊥) → (n k : ℕ) → n + count_by is_dot (canonical_lowered t) ≡ k → n + count_by is_dot (canonical_lowered rest) ≡ k
  count-step n m k h = ap (λ x. m + x) (sym (count-other (is_not_46 n))) ∙ h

  pub count-step-dot : octet ≡ 46 → (n k : ℕ) → n + count_by is_dot (canonical_lowered t) ≡ k → (n + 1) + count_by is_dot (canonical_lowered rest) ≡ k
  count-step-dot e m k h = let more = count-dot (is_46 e) in omega (arith, more, h)

  pub empty-step : (begins : Bool) → ((begins ≡ true) × (octet ≡ 46 → ⊥)) ⊎ (begins ≡ false)
      → empties (is_dot octet) (canonical_lowered rest) ≡ empties begins (canonical_lowered t)
  empty-step begins (inl both) =
      let other = is_not_46 both.1 in
      ap (λ v. empties v (canonical_lowered rest)) other ∙ empty-other begins other
  empty-step begins (inr e) = by_dot (is_dot octet) refl
    where
      by_dot : (v : Bool) → is_dot octet ≡ v → empties v (canonical_lowered rest) ≡ empties begins (canonical_lowered t)
      by_dot true d = empty-dot d ∙ ap (λ v. empties v (canonical_lowered t)) (sym e)
      by_dot false d = empty-other begins d

  pub escape-step : has_escape (canonical_lowered t) ≡ (is_percent octet || has_escape (canonical_lowered rest))
  escape-step = ap has_escape is.whole ∙ list_any-append is_percent is.front (canonical_lowered rest) ∙ ap (λ v. v || has_escape (canonical_lowered rest)) is.has.escape

  pub escape-found : octet ≡ 37 → has_escape (canonical_lowered t) ≡ true
  escape-found e = escape-step ∙ ap (λ b. is_percent b || has_escape (canonical_lowered rest)) e

  pub escape-other : (octet ≡ 37 → ⊥) → has_escape (canonical_lowered rest) ≡ has_escape (canonical_lowered t)
  escape-other n = sym (escape-step ∙ ap (λ v. v || has_escape (canonical_lowered rest)) (ne_eqb octet percent n))

  pub digit-first : begins_with_digit (canonical_lowered t) ≡ is_digit octet 10
  digit-first = ap begins_with_digit is.whole ∙ by_front is.front is.has.some ∙ is.has.first
    where
      by_front : (s : List ℕ) → 0 < length s → begins_with_digit (s ++ canonical_lowered rest) ≡ begins_with_digit s
      by_front [] some = absurd (omega (arith, some))
      by_front (b ∷ s) some = refl

pub count-nil : (t : List ℕ) → t ≡ [] → count_by is_dot (canonical_lowered t) ≡ 0
count-nil t e = ap (λ u. count_by is_dot (canonical_lowered u)) e ∙ ap (count_by is_dot) (canonical_in-nil Lowered)

pub escapes-nil : (t : List ℕ) → t ≡ [] → has_escape (canonical_lowered t) ≡ false
escapes-nil t e = ap (λ u. has_escape (canonical_lowered u)) e ∙ ap has_escape (canonical_in-nil Lowered)

pub empties-nil : (begins : Bool) (t : List ℕ) → t ≡ [] → empties begins (canonical_lowered t) ≡ begins
empties-nil begins t e = ap (λ u. empties begins (canonical_lowered u)) e ∙ ap (empties begins) (canonical_in-nil Lowered) ∙ by_begins begins
  where
    by_begins : (v : Bool) → empties v [] ≡ v
    by_begins true = refl
    by_begins false = refl

-- ---- which octet a token has

pub ascii_digit : (b : ℕ) → is_ascii_digit b ≡ is_digit b 10
ascii_digit b = grind (arith, nat_tests)

byte-octet : (b c : ℕ) → is_dot c ≡ is_dot b → is_digit c 10 ≡ is_digit b 10 → is_percent c ≡ is_percent b → HasOctet b (c ∷ [])
byte-octet b c e f g = record {
  some = omega arith;
  single = λ h. let same : c ≡ dot = grind (arith, nat_tests) in ap (λ x. x ∷ []) same;
  others = λ h. rw (e, h) refl;
  first = f;
  escape = or-false (is_percent c) ∙ g;
}

lower_dot : (b : ℕ) → is_dot (to_ascii_lowercase b) ≡ is_dot b
lower_dot b = grind (arith, nat_tests)

lower_digit : (b : ℕ) → is_digit (to_ascii_lowercase b) 10 ≡ is_digit b 10
lower_digit b = grind (arith, nat_tests)

lower_percent : (b : ℕ) → is_percent (to_ascii_lowercase b) ≡ is_percent b
lower_percent b = grind (arith, nat_tests)

pub octet-byte : (b : ℕ) → HasOctet b (spell (canonical_token Lowered (Byte b)))
octet-byte b = byte-octet b (to_ascii_lowercase b) (lower_dot b) (lower_digit b) (lower_percent b)

pub value_dot : (high low : ℕ) → is_hex high ≡ true → is_hex low ≡ true → is_escaped_dot high low ≡ false → (escaped_byte high low ≡ 46) → ⊥
value_dot high low h k e f = grind (arith, nat_tests)

-- an escape of an unreserved byte
pub octet-unreserved : (high low : ℕ) → is_unreserved (escaped_byte high low) ≡ true → HasOctet (escaped_byte high low) (spell (canonical_token Lowered (Escape high low)))
octet-unreserved high low u =
    subst (λ v. HasOctet (escaped_byte high low) (spell (cond v (Byte (to_ascii_lowercase (escaped_byte high low))) (Escape (to_ascii_uppercase high) (to_ascii_uppercase low)))))
    (sym u) (octet-byte (escaped_byte high low))

-- another escape, which stays
pub octet-kept : (high low : ℕ) → is_hex high ≡ true → is_hex low ≡ true → is_unreserved (escaped_byte high low) ≡ false
    → HasOctet 37 (spell (canonical_token Lowered (Escape high low)))
octet-kept high low h k u =
    subst (λ v. HasOctet 37 (spell (cond v (Byte (to_ascii_lowercase (escaped_byte high low))) (Escape (to_ascii_uppercase high) (to_ascii_uppercase low)))))
    (sym u)
    (record { some = omega arith; single = λ n. absurd (false≢true n); others = digits; first = refl; escape = refl })
  where
    upper_no_dot : (b : ℕ) → is_hex b ≡ true → not (is_dot (to_ascii_uppercase b)) ≡ true
    upper_no_dot b x = grind (arith, nat_tests)

    digits : is_dot 37 ≡ false → list_all (λ b. not (is_dot b)) (percent ∷ to_ascii_uppercase high ∷ to_ascii_uppercase low ∷ []) ≡ true
    digits m = and_from _ _ refl (and_from _ _ (upper_no_dot high h) (and_from _ _ (upper_no_dot low k) refl))

-- ---- the first token of a text

pub octet-escape : (b : ℕ) (after rest : List ℕ) (octet : ℕ) → is_escape b after ≡ true → drop 2 after ≡ rest
    → HasOctet octet (spell (canonical_token Lowered (Escape (get_or after 0 0) (get_or after 1 0)))) → BeginsWithOctet octet (b ∷ after) rest
octet-escape b after rest octet is e has =
    let place = escape_at b after is in
    let high = get_or after 0 0 in
    let low = get_or after 1 0 in
    let cut : tokens (b ∷ after) ≡ Escape high low ∷ tokens rest =
    ap tokens place.whole ∙ tokens-escape percent (high ∷ low ∷ drop 2 after) place.digits ∙ ap (λ u. Escape high low ∷ tokens u) e in
    record {
      front = spell (canonical_token Lowered (Escape high low));
      has = has;
      whole = canonical_in-cons Lowered (b ∷ after) rest (Escape high low) cut;
    }

pub octet-plain : (b : ℕ) (after : List ℕ) → is_escape b after ≡ false → BeginsWithOctet b (b ∷ after) after
octet-plain b after is = record {
  front = spell (canonical_token Lowered (Byte b));
  has = octet-byte b;
  whole = canonical_in-cons Lowered (b ∷ after) after (Byte b) (tokens-byte b after is);
}

pub formed-escape : (b : ℕ) (after rest : List ℕ) → is_escape b after ≡ true → drop 2 after ≡ rest → is_well_formed (b ∷ after) ≡ true → is_well_formed rest ≡ true
formed-escape b after rest is e formed =
    let place = escape_at b after is in
    let cut = ap tokens place.whole ∙ tokens-escape percent (get_or after 0 0 ∷ get_or after 1 0 ∷ drop 2 after) place.digits in
    ap is_well_formed (sym e) ∙ (and_parts _ _ (sym (ap (list_all is_token) cut) ∙ formed)).1

pub formed-plain : (b : ℕ) (after : List ℕ) → is_escape b after ≡ false → is_well_formed (b ∷ after) ≡ true → is_well_formed after ≡ true
formed-plain b after is formed = (and_parts _ _ (sym (ap (list_all is_token) (tokens-byte b after is)) ∙ formed)).1
