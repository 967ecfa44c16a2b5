-- Digits of escapes that are made large.
use Rattle.std.proofs.Common.{◌≡◌, ◌≢◌, ℕ, zero, suc, ◌+◌, ◌-◌, ◌<◌, ◌≤◌, Bool, true, false, cond, not, List, ◌∷◌, ◌++◌, map, length, length-append, get_or, set, take, drop, refl, sym, ap, subst, ◌∙◌, arith, inl, inr}
use Rattle.std.specs.List.{flat_map}
use Rattle.std.specs.Char.{to_ascii_uppercase}
use Rattle.std.specs.Int.{bit_at}
use Rattle.std.proofs.lemmas.Bool.{and_parts, and_from, eq-eqb, false≢true, cases_lt}
use Rattle.std.proofs.lemmas.Grind.{flat_map-append}
use Rattle.std.proofs.lemmas.List.{map-append, drop-set-lt, take-set-le, take-append-drop, get_or-drop, get_or-set_same, get_or-set_other, length-set, length-drop}
use Rattle.std.proofs.lemmas.Nat.Bits.{bit_at-lt, bit_at-zero}
use Rattle.uriparse_text.specs.declared.internal.token.Token.TheVariants.{Byte, Escape}
use Rattle.uriparse_text.specs.declared.internal.token.Case.{Case}
use Rattle.uriparse_text.specs.declared.internal.token.Case.TheVariants.{Kept}
use Rattle.uriparse_text.specs.Bytes.{percent, is_hex, is_unreserved}
use Rattle.uriparse_text.specs.Tokens.{tokens, spell, is_escape}
use Rattle.uriparse_text.specs.Canonical.{canonical_in, canonical_token, escaped_byte, in_case}
use Rattle.uriparse_text.specs.Escapes.{is_canonical_escape, begins_changed, NoneChanged, AreMarked, Raises}
use Rattle.uriparse_text.proofs.lemmas.scans.PairMarkLemmas.{three}
use Rattle.uriparse_text.proofs.lemmas.tokens.TokenLemmas.{tokens-border, tokens-escape, escape_at}
use Rattle.uriparse_text.proofs.lemmas.canonical.CanonicalLemmas.{canonical_in-cons, upper_digit, upper_twice, upper_value}
use Rattle.uriparse_text.proofs.lemmas.canonical.ChangedLemmas.{Changed, changed_bytes, changed_from}
use Rattle.uriparse_text.proofs.lemmas.canonical.SpellingLengthLemmas.{spelled_no_longer}

-- the canonical spelling of a text that is cut before a byte that is no digit
pub canonical_in-border : (case : Case) (mark : ℕ) → is_hex mark ≡ false → (t u : List ℕ)
    → canonical_in case (t ++ mark ∷ u) ≡ canonical_in case t ++ canonical_in case (mark ∷ u)
unfolding canonical_in
canonical_in-border case mark digit t u =
    ap (λ ts. flat_map spell (map (canonical_token case) ts)) (tokens-border mark digit t u)
    ∙ ap (flat_map spell) (map-append (canonical_token case) (tokens t) (tokens (mark ∷ u)))
    ∙ flat_map-append spell (map (canonical_token case) (tokens t)) (map (canonical_token case) (tokens (mark ∷ u)))

same_value : (high low : ℕ) → is_hex high ≡ true → is_hex low ≡ true
    → escaped_byte (to_ascii_uppercase high) (to_ascii_uppercase low) ≡ escaped_byte high low
same_value high low h l = rw (upper_value high h, upper_value low l) refl

same_canonical : (case : Case) (high low : ℕ) → is_hex high ≡ true → is_hex low ≡ true
    → canonical_token case (Escape (to_ascii_uppercase high) (to_ascii_uppercase low)) ≡ canonical_token case (Escape high low)
same_canonical case high low h l =
    ap (λ v. cond (is_unreserved v) (Byte (in_case case v))
    (Escape (to_ascii_uppercase (to_ascii_uppercase high)) (to_ascii_uppercase (to_ascii_uppercase low)))) (same_value high low h l)
    ∙ ap (λ x. cond (is_unreserved (escaped_byte high low)) (Byte (in_case case (escaped_byte high low))) (Escape x (to_ascii_uppercase (to_ascii_uppercase low))))
    (upper_twice high)
    ∙ ap (λ x. cond (is_unreserved (escaped_byte high low)) (Byte (in_case case (escaped_byte high low))) (Escape (to_ascii_uppercase high) x))
    (upper_twice low)

escape_in_front : (high low : ℕ) (rest : List ℕ) → is_hex high ≡ true → is_hex low ≡ true
    → canonical_in Kept (percent ∷ high ∷ low ∷ rest) ≡ spell (canonical_token Kept (Escape high low)) ++ canonical_in Kept rest
escape_in_front high low rest h l =
    canonical_in-cons Kept (percent ∷ high ∷ low ∷ rest) rest (Escape high low) (tokens-escape percent (high ∷ low ∷ rest) (and_from _ _ h l))

-- an escape in a text, by the bytes before and behind it
module _ (front : List ℕ) (high low : ℕ) (rest : List ℕ) (h : is_hex high ≡ true) (l : is_hex low ≡ true) where
  whole_escape : canonical_in Kept (front ++ percent ∷ high ∷ low ∷ rest) ≡
      canonical_in Kept front ++ (spell (canonical_token Kept (Escape high low)) ++ canonical_in Kept rest)
  whole_escape =
      canonical_in-border Kept percent refl front (high ∷ low ∷ rest)
      ∙ ap (λ u. canonical_in Kept front ++ u) (escape_in_front high low rest h l)

  -- it stands for no unreserved byte if the canonical spelling is as long
  stays_escaped : length (canonical_in Kept (front ++ percent ∷ high ∷ low ∷ rest)) ≡ length (front ++ percent ∷ high ∷ low ∷ rest)
      → is_unreserved (escaped_byte high low) ≡ false
  stays_escaped long = by_value (is_unreserved (escaped_byte high low)) refl
    where
      by_value : (v : Bool) → is_unreserved (escaped_byte high low) ≡ v → v ≡ false
      by_value false e = refl
      by_value true e =
          let short : canonical_token Kept (Escape high low) ≡ Byte (escaped_byte high low) =
          ap (λ v. cond v (Byte (escaped_byte high low)) (Escape (to_ascii_uppercase high) (to_ascii_uppercase low))) e in
          let spelled = ap length (whole_escape ∙ ap (λ t. canonical_in Kept front ++ (spell t ++ canonical_in Kept rest)) short) in
          let sum = length-append (canonical_in Kept front) (escaped_byte high low ∷ canonical_in Kept rest) in
          let all = length-append front (percent ∷ high ∷ low ∷ rest) in
          let first = spelled_no_longer Kept front in
          let last = spelled_no_longer Kept rest in
          absurd (omega arith)

raised_escape : (front : List ℕ) (high low : ℕ) (rest : List ℕ) → is_hex high ≡ true → is_hex low ≡ true
    → canonical_in Kept (front ++ percent ∷ to_ascii_uppercase high ∷ to_ascii_uppercase low ∷ rest)
    ≡ canonical_in Kept (front ++ percent ∷ high ∷ low ∷ rest)
raised_escape front high low rest h l =
    whole_escape front (to_ascii_uppercase high) (to_ascii_uppercase low) rest (upper_digit high h) (upper_digit low l)
    ∙ ap (λ t. canonical_in Kept front ++ (spell t ++ canonical_in Kept rest)) (same_canonical Kept high low h l)
    ∙ sym (whole_escape front high low rest h l)

-- ---- the digits at a place of a text

module _ (text : List ℕ) (k : ℕ) where
  abbrev high : ℕ
  high = get_or text (k + 1) 0

  abbrev low : ℕ
  low = get_or text (k + 2) 0

  abbrev raised : List ℕ
  raised = set (set text (k + 1) (to_ascii_uppercase high)) (k + 2) (to_ascii_uppercase low)

  pub record EscapeAt : Type 0 where
    pub long : k + 2 < length text
    pub sign : get_or text k 0 ≡ percent
    pub first : is_hex (get_or text (k + 1) 0) ≡ true
    pub second : is_hex (get_or text (k + 2) 0) ≡ true

  cut : (t : List ℕ) → k + 2 < length t → t ≡ take k t ++ get_or t k 0 ∷ get_or t (k + 1) 0 ∷ get_or t (k + 2) 0 ∷ drop (k + 3) t
  cut t h = sym (take-append-drop k t) ∙ ap (λ u. take k t ++ u) (three k t h)

  size : length raised ≡ length text
  size = length-set (set text (k + 1) (to_ascii_uppercase high)) (k + 2) (to_ascii_uppercase low) ∙ length-set text (k + 1) (to_ascii_uppercase high)

  -- other bytes are the same
  elsewhere : (j : ℕ) → j ≢ k + 1 → j ≢ k + 2 → get_or raised j 0 ≡ get_or text j 0
  elsewhere j n m =
      get_or-set_other (set text (k + 1) (to_ascii_uppercase high)) (k + 2) j (to_ascii_uppercase low) 0 m
      ∙ get_or-set_other text (k + 1) j (to_ascii_uppercase high) 0 n

  module _ (is : EscapeAt) where
    at_first : get_or raised (k + 1) 0 ≡ to_ascii_uppercase high
    at_first =
        let long = is.long in
        get_or-set_other (set text (k + 1) (to_ascii_uppercase high)) (k + 2) (k + 1) (to_ascii_uppercase low) 0 (λ e. omega arith)
        ∙ get_or-set_same text (k + 1) (to_ascii_uppercase high) 0 (omega arith)

    at_second : get_or raised (k + 2) 0 ≡ to_ascii_uppercase low
    at_second =
        let long = is.long in
        get_or-set_same (set text (k + 1) (to_ascii_uppercase high)) (k + 2) (to_ascii_uppercase low) 0
        (omega (arith, length-set text (k + 1) (to_ascii_uppercase high)))

    old_text : text ≡ take k text ++ percent ∷ high ∷ low ∷ drop (k + 3) text
    old_text = cut text is.long ∙ ap (λ b. take k text ++ b ∷ high ∷ low ∷ drop (k + 3) text) is.sign

    new_text : raised ≡ take k text ++ percent ∷ to_ascii_uppercase high ∷ to_ascii_uppercase low ∷ drop (k + 3) text
    new_text =
        let long = is.long in
        cut raised (omega (arith, size))
        ∙ ap (λ u. u ++ get_or raised k 0 ∷ get_or raised (k + 1) 0 ∷ get_or raised (k + 2) 0 ∷ drop (k + 3) raised)
        (take-set-le k (set text (k + 1) (to_ascii_uppercase high)) (k + 2) (to_ascii_uppercase low) (omega arith)
        ∙ take-set-le k text (k + 1) (to_ascii_uppercase high) (omega arith))
        ∙ ap (λ b. take k text ++ b ∷ get_or raised (k + 1) 0 ∷ get_or raised (k + 2) 0 ∷ drop (k + 3) raised)
        (elsewhere k (λ e. omega arith) (λ e. omega arith) ∙ is.sign)
        ∙ ap (λ b. take k text ++ percent ∷ b ∷ get_or raised (k + 2) 0 ∷ drop (k + 3) raised) at_first
        ∙ ap (λ b. take k text ++ percent ∷ to_ascii_uppercase high ∷ b ∷ drop (k + 3) raised) at_second
        ∙ ap (λ u. take k text ++ percent ∷ to_ascii_uppercase high ∷ to_ascii_uppercase low ∷ u)
        (drop-set-lt (k + 3) (set text (k + 1) (to_ascii_uppercase high)) (k + 2) (to_ascii_uppercase low) (omega arith)
        ∙ drop-set-lt (k + 3) text (k + 1) (to_ascii_uppercase high) (omega arith))

    raises : Raises text raised
    raises = record {
      size = size;
      spelled = ap (canonical_in Kept) new_text ∙ raised_escape (take k text) high low (drop (k + 3) text) is.first is.second
          ∙ ap (canonical_in Kept) (sym old_text);
    }

    -- the digits of the escape are large now
    canonical_now : length (canonical_in Kept text) ≡ length text
        → is_canonical_escape (get_or (drop k raised) 1 0) (get_or (drop k raised) 2 0) ≡ true
    canonical_now whole =
        let stays = stays_escaped (take k text) high low (drop (k + 3) text) is.first is.second
        (sym (ap (λ t. length (canonical_in Kept t)) old_text) ∙ whole ∙ ap length old_text) in
        ap (λ b. is_canonical_escape b (get_or (drop k raised) 2 0)) (get_or-drop k raised 1 0 ∙ at_first)
        ∙ ap (λ b. is_canonical_escape (to_ascii_uppercase high) b) (get_or-drop k raised 2 0 ∙ at_second)
        ∙ and_from _ _ (eq-eqb (to_ascii_uppercase (to_ascii_uppercase high)) (to_ascii_uppercase high) (upper_twice high))
        (and_from _ _ (eq-eqb (to_ascii_uppercase (to_ascii_uppercase low)) (to_ascii_uppercase low) (upper_twice low))
        (ap not (ap is_unreserved (same_value high low is.first is.second) ∙ stays)))

    not_here : length (canonical_in Kept text) ≡ length text → begins_changed (drop k raised) ≡ true → ⊥
    not_here whole h = false≢true (sym (changed_bytes (drop k raised) h).changed ∙ canonical_now whole)

    no_sign : (b : ℕ) → is_hex b ≡ true → b ≡ percent → ⊥
    no_sign b h e = false≢true (sym (ap is_hex e) ∙ h)

    module _ (j : ℕ) (h : begins_changed (drop j raised) ≡ true) (n : j ≢ k) where
      it : Changed (drop j raised)
      it = changed_bytes (drop j raised) h

      here : get_or raised j 0 ≡ percent
      here = ap (λ i. get_or raised i 0) (let offset : j ≡ j + 0 = omega arith in offset) ∙ sym (get_or-drop j raised 0 0) ∙ it.sign

      not_first : j ≢ k + 1
      not_first e = no_sign (to_ascii_uppercase high) (upper_digit high is.first) (sym at_first ∙ ap (λ i. get_or raised i 0) (sym e) ∙ here)

      not_second : j ≢ k + 2
      not_second e = no_sign (to_ascii_uppercase low) (upper_digit low is.second) (sym at_second ∙ ap (λ i. get_or raised i 0) (sym e) ∙ here)

      -- the escape's sign is no digit of another
      not_before : j + 1 ≢ k
      not_before e =
          no_sign (get_or raised (j + 1) 0) (ap is_hex (sym (get_or-drop j raised 1 0)) ∙ it.high)
          (ap (λ i. get_or raised i 0) e ∙ elsewhere k (λ x. omega arith) (λ x. omega arith) ∙ is.sign)

      same_byte : (i : ℕ) → i < 3 → get_or (drop j raised) i 0 ≡ get_or (drop j text) i 0
      same_byte i l =
          get_or-drop j raised i 0
          ∙ elsewhere (j + i) (λ e. by_offset i l e) (λ e. by_other i l e)
          ∙ sym (get_or-drop j text i 0)
        where
          by_offset : (i : ℕ) → i < 3 → j + i ≡ k + 1 → ⊥
          by_offset zero l e = not_first (omega arith)
          by_offset (suc zero) l e = n (omega arith)
          by_offset (suc (suc zero)) l e = not_before (omega arith)
          by_offset (suc (suc (suc i))) l e = absurd (omega arith)

          by_other : (i : ℕ) → i < 3 → j + i ≡ k + 2 → ⊥
          by_other zero l e = not_second (omega arith)
          by_other (suc zero) l e = not_first (omega arith)
          by_other (suc (suc zero)) l e = n (omega arith)
          by_other (suc (suc (suc i))) l e = absurd (omega arith)

      also_before : begins_changed (drop j text) ≡ true
      also_before = changed_from (drop j text) (record {
        sign = sym (same_byte 0 (omega arith)) ∙ it.sign;
        high = ap is_hex (sym (same_byte 1 (omega arith))) ∙ it.high;
        low = ap is_hex (sym (same_byte 2 (omega arith))) ∙ it.low;
        changed = ap (λ b. is_canonical_escape b (get_or (drop j text) 2 0)) (sym (same_byte 1 (omega arith)))
            ∙ ap (λ b. is_canonical_escape (get_or (drop j raised) 1 0) b) (sym (same_byte 2 (omega arith))) ∙ it.changed;
      })

    fewer : length (canonical_in Kept text) ≡ length text → (j : ℕ) → begins_changed (drop j raised) ≡ true
        → (j ≢ k) × (begins_changed (drop j text) ≡ true)
    fewer whole j h =
        let n : j ≢ k = λ e. not_here whole (ap (λ i. begins_changed (drop i raised)) (sym e) ∙ h) in
        (n, also_before j h n)

  escape_here : is_escape (get_or text k 0) (drop (k + 1) text) ≡ true → EscapeAt
  escape_here h =
      let it = escape_at (get_or text k 0) (drop (k + 1) text) h in
      let next : k + 1 + 0 ≡ k + 1 = omega arith in
      let last : k + 1 + 1 ≡ k + 2 = omega arith in
      let following = it.long in
      let digits = and_parts (is_hex (get_or (drop (k + 1) text) 0 0)) (is_hex (get_or (drop (k + 1) text) 1 0)) it.digits in
      record {
        long = omega (arith, length-drop (k + 1) text);
        sign = it.sign;
        first = ap is_hex (sym (get_or-drop (k + 1) text 0 0 ∙ ap (λ i. get_or text i 0) next)) ∙ digits.0;
        second = ap is_hex (sym (get_or-drop (k + 1) text 1 0 ∙ ap (λ i. get_or text i 0) last)) ∙ digits.1;
      }

  module _ (h : is_escape (get_or text k 0) (drop (k + 1) text) ≡ true) (x y : ℕ) (e : x ≡ to_ascii_uppercase (get_or text (k + 1) 0))
      (f : y ≡ to_ascii_uppercase (get_or (set text (k + 1) x) (k + 2) 0)) where
    made : raised ≡ set (set text (k + 1) x) (k + 2) y
    made =
        let other : y ≡ to_ascii_uppercase low = f ∙ ap to_ascii_uppercase (get_or-set_other text (k + 1) (k + 2) x 0 (λ g. omega arith)) in
        ap (λ b. set (set text (k + 1) b) (k + 2) (to_ascii_uppercase low)) (sym e) ∙ ap (set (set text (k + 1) x) (k + 2)) (sym other)

    pub digits_raised : Raises text (set (set text (k + 1) x) (k + 2) y)
    digits_raised = subst (Raises text) made (raises (escape_here h))

    pub fewer_changed : length (canonical_in Kept text) ≡ length text → (j : ℕ) → begins_changed (drop j (set (set text (k + 1) x) (k + 2) y)) ≡ true
        → (j ≢ k) × (begins_changed (drop j text) ≡ true)
    fewer_changed whole j g = fewer (escape_here h) whole j (ap (λ t. begins_changed (drop j t)) made ∙ g)

-- ---- marks

pub raises_none : (text : List ℕ) → Raises text text
raises_none text = record { size = refl; spelled = refl }

pub raises_both : (first mid last : List ℕ) → Raises first mid → Raises mid last → Raises first last
raises_both first mid last one other = record { size = other.size ∙ one.size; spelled = other.spelled ∙ one.spelled }

-- the canonical spelling stays as long as the text
pub raises_whole : (old new : List ℕ) → Raises old new → length (canonical_in Kept old) ≡ length old → length (canonical_in Kept new) ≡ length new
raises_whole old new is whole = ap length is.spelled ∙ whole ∙ sym is.size

-- sixteen places are marked, and none before them changes
pub marks_first : (text : List ℕ) (seen at marks : ℕ) → NoneChanged text seen → at ≤ seen
    → ((k : ℕ) → k < 16 → bit_at marks k ≡ 0 → begins_changed (drop (at + k) text) ≡ false) → AreMarked text at marks
marks_first text seen at marks before from are k h changed = elim (cases_lt k at) [
  | inl is ↦ absurd (false≢true (sym (before k (omega arith)) ∙ changed))
  | inr past ↦ (
    past,
    elim (cases_lt (bit_at marks (k - at)) 1) [
      | inl unset ↦
          let offset : at + (k - at) ≡ k = omega arith in
          absurd (false≢true (sym (ap (λ i. begins_changed (drop i text)) (sym offset) ∙ are (k - at) (omega arith) (omega arith)) ∙ changed))
      | inr set ↦ omega (arith, bit_at-lt marks (k - at))
    ],
  )
]

-- the lowest mark's escape is raised
pub marks_next : (old new : List ℕ) (at left next k : ℕ) → AreMarked old at left
    → ((j : ℕ) → begins_changed (drop j new) ≡ true → (j ≢ at + k) × (begins_changed (drop j old) ≡ true))
    → ((j : ℕ) → j ≢ k → bit_at next j ≡ bit_at left j) → AreMarked new at next
marks_next old new at left next k are fewer kept j h changed =
    let was = fewer j changed in
    let marked = are j h was.1 in
    let n = was.0 in
    let from = marked.0 in
    (marked.0, kept (j - at) (λ e. n (omega arith)) ∙ marked.1)

-- no mark is left
pub marks_last : (text : List ℕ) (at left : ℕ) → AreMarked text at left → left ≡ 0 → NoneChanged text (at + 16)
marks_last text at left are none k h = by_value (begins_changed (drop k text)) refl
  where
    by_value : (v : Bool) → begins_changed (drop k text) ≡ v → v ≡ false
    by_value false e = refl
    by_value true e = absurd (omega (arith, (are k h e).1, ap (λ m. bit_at m (k - at)) none, bit_at-zero (k - at)))
