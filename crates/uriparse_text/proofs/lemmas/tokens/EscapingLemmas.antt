-- Texts with escapes for the bytes that may not stand in them.
use Rattle.std.proofs.Common.{◌≡◌, ℕ, ◌<◌, Bool, true, false, not, cond, ◌&&◌, ◌||◌, List, [], ◌∷◌, ◌++◌, drop, map, None, nat_lt, All, IsUtf8, refl, sym, ap, ◌∙◌, append-nil, arith}
use Rattle.std.specs.Prelude.{◌==◌, ◌/◌, ◌%◌}
use Rattle.std.specs.Int.{is_in_range}
use Rattle.std.specs.List.{list_all, slice_split, onto_first}
use Rattle.std.proofs.lemmas.Bool.{agree_below_at, and_from, and_parts, false≢true, not-true, eqb-true, ltb-true}
use Rattle.std.proofs.lemmas.List.Splits.{slice_split-cons_yes, slice_split-cons_no}
use Rattle.std.proofs.lemmas.List.Elements.{All-nil, All-cons}
use Rattle.std.proofs.lemmas.Str.{IsUtf8-from_ascii}
use Rattle.std.proofs.lemmas.Str.Ascii.{IsAscii-from_all}
use Rattle.uriparse_text.specs.declared.internal.token.Token.TheVariants.{Byte, Escape}
use Rattle.uriparse_text.specs.declared.internal.class.Class.{Class}
use Rattle.uriparse_text.specs.Alike.{upper_digit_of}
use Rattle.uriparse_text.specs.Bytes.{percent, is_hex, is_among}
use Rattle.uriparse_text.specs.Classes.{is_plain}
use Rattle.uriparse_text.specs.Tokens.{is_escape, spell}
use Rattle.uriparse_text.specs.Faults.{fault, IsIn}
use Rattle.uriparse_text.specs.Cuts.{none_pass, up_to}
use Rattle.uriparse_text.specs.Canonical.{escaped_byte}
use Rattle.uriparse_text.specs.Coding.{decoded, are_bytes, escape_of, may_stand, escaped_in}
use Rattle.uriparse_text.proofs.lemmas.tokens.TokenLemmas.{escape_at, tokens-byte, tokens-escape}
use Rattle.uriparse_text.proofs.lemmas.tokens.CodingLemmas.{decoded-cons, small_byte}
use Rattle.uriparse_text.proofs.lemmas.classes.FaultLemmas.{fault-nil, fault-plain, fault-here, no_fault}
use Rattle.uriparse_text.proofs.lemmas.classes.FaultByByteLemmas.{hex_plain, fine_escape, fault-begins_fine}

-- ---- the digits of an escape that is written

abbrev pub high_digit : ℕ → ℕ
high_digit b = upper_digit_of ((b / 16) % 16)

abbrev pub low_digit : ℕ → ℕ
low_digit b = upper_digit_of (b % 16)

half_is_hex : (n : ℕ) → n < 16 → is_hex (upper_digit_of n) ≡ true
half_is_hex n small = agree_below_at (λ n. is_hex (upper_digit_of n)) (λ n. true) 16 n refl small

pub high_is_hex : (b : ℕ) → is_hex (high_digit b) ≡ true
high_is_hex b = half_is_hex ((b / 16) % 16) (omega arith)

pub low_is_hex : (b : ℕ) → is_hex (low_digit b) ≡ true
low_is_hex b = half_is_hex (b % 16) (omega arith)

pub written_escape : (b : ℕ) (t : List ℕ) → is_escape percent (high_digit b ∷ low_digit b ∷ t) ≡ true
written_escape b t = and_from _ _ (high_is_hex b) (low_is_hex b)

pub escape_digits : (b high low : ℕ) (t : List ℕ) → is_escape b (high ∷ low ∷ t) ≡ true → (is_hex high ≡ true) × (is_hex low ≡ true)
escape_digits b high low t is = and_parts (is_hex high) (is_hex low) (escape_at b (high ∷ low ∷ t) is).digits

written_value : (b : ℕ) → b < 256 → escaped_byte (high_digit b) (low_digit b) ≡ b
written_value b small =
    eqb-true _ _ (agree_below_at (λ b. escaped_byte (high_digit b) (low_digit b) == b) (λ b. true) 256 b refl small)

pub or_true : (v : Bool) → (v || true) ≡ true
or_true true = refl
or_true false = refl

-- what follows the two digits of an escape doesn't matter
pub escape-append : (b : ℕ) (t u : List ℕ) → is_escape b t ≡ true → is_escape b (t ++ u) ≡ true
escape-append b [] u is = absurd (false≢true is)
escape-append b (c ∷ []) u is = absurd (false≢true is)
escape-append b (high ∷ low ∷ t) u is = is

module _ (class : Class) (more : List ℕ) where
  -- ---- one byte

  pub stays : (b : ℕ) (t : List ℕ) → (may_stand class more b || is_escape b t) ≡ true → escaped_in class more (b ∷ t) ≡ b ∷ escaped_in class more t
  stays b t e = ap (λ v. cond v (b ∷ []) (spell (escape_of b)) ++ escaped_in class more t) e

  pub becomes : (b : ℕ) (t : List ℕ) → (may_stand class more b || is_escape b t) ≡ false
      → escaped_in class more (b ∷ t) ≡ percent ∷ high_digit b ∷ low_digit b ∷ escaped_in class more t
  becomes b t e = ap (λ v. cond v (b ∷ []) (spell (escape_of b)) ++ escaped_in class more t) e

  pub stays_allowed : (b : ℕ) (t : List ℕ) → may_stand class more b ≡ true → escaped_in class more (b ∷ t) ≡ b ∷ escaped_in class more t
  stays_allowed b t h = stays b t (ap (λ v. v || is_escape b t) h)

  pub stays_plain : (b : ℕ) (t : List ℕ) → is_plain class b ≡ true → escaped_in class more (b ∷ t) ≡ b ∷ escaped_in class more t
  stays_plain b t h = stays_allowed b t (ap (λ v. v || is_among more b) h)

  pub stays_escape : (b : ℕ) (t : List ℕ) → is_escape b t ≡ true → escaped_in class more (b ∷ t) ≡ b ∷ escaped_in class more t
  stays_escape b t h = stays b t (ap (λ v. may_stand class more b || v) h ∙ or_true (may_stand class more b))

  pub stay_digits : (high low : ℕ) (t : List ℕ) → is_hex high ≡ true → is_hex low ≡ true
      → escaped_in class more (high ∷ low ∷ t) ≡ high ∷ low ∷ escaped_in class more t
  stay_digits high low t h k = stays_plain high (low ∷ t) (hex_plain class high h) ∙ ap (λ u. high ∷ u) (stays_plain low t (hex_plain class low k))

  pub escape_stays : (b : ℕ) (t : List ℕ) → is_escape b t ≡ true → is_escape b (escaped_in class more t) ≡ true
  escape_stays b [] is = absurd (false≢true is)
  escape_stays b (c ∷ []) is = absurd (false≢true is)
  escape_stays b (high ∷ low ∷ t) is =
      let d = escape_digits b high low t is in ap (is_escape b) (stay_digits high low t d.0 d.1) ∙ is

  -- ---- texts that stay

  -- a text of a class whose bytes may stand there
  pub escaped-IsIn : (c : Class) → ((b : ℕ) → is_plain c b ≡ true → may_stand class more b ≡ true) → (t u : List ℕ) → IsIn c t
      → escaped_in class more (t ++ u) ≡ t ++ escaped_in class more u
  escaped-IsIn c inside t u h = walk t ((no_fault c t).1 h)
    where
      walk : (t : List ℕ) → fault c t ≡ None → escaped_in class more (t ++ u) ≡ t ++ escaped_in class more u
      walk [] h = refl
      walk (b ∷ t) h = by_plain (is_plain c b) refl (walk t)
        where
          by_escape : (v : Bool) → is_escape b t ≡ v → is_plain c b ≡ false
              → (fault c t ≡ None → escaped_in class more (t ++ u) ≡ t ++ escaped_in class more u)
              → escaped_in class more (b ∷ (t ++ u)) ≡ b ∷ (t ++ escaped_in class more u)
          by_escape true f e g =
              stays_escape b (t ++ u) (escape-append b t u f)
              ∙ ap (λ l. b ∷ l) (g (sym (fault-begins_fine c b t (fine_escape c b t f)) ∙ h))
          by_escape false f e g = absurd (cc (fault-here c b t e f, h))

          by_plain : (v : Bool) → is_plain c b ≡ v
              → (fault c t ≡ None → escaped_in class more (t ++ u) ≡ t ++ escaped_in class more u)
              → escaped_in class more (b ∷ (t ++ u)) ≡ b ∷ (t ++ escaped_in class more u)
          by_plain true e g = stays_allowed b (t ++ u) (inside b e) ∙ ap (λ l. b ∷ l) (g (sym (fault-plain c b t e) ∙ h))
          by_plain false e g = by_escape (is_escape b t) refl e g

  pub own_class : (b : ℕ) → is_plain class b ≡ true → may_stand class more b ≡ true
  own_class b h = ap (λ v. v || is_among more b) h

  pub escaped-IsIn-nil : (t : List ℕ) → IsIn class t → escaped_in class more t ≡ t
  escaped-IsIn-nil t h = ap (escaped_in class more) (sym (append-nil t)) ∙ escaped-IsIn class own_class t [] h ∙ append-nil t

  pub escaped-allowed : (t u : List ℕ) → list_all (may_stand class more) t ≡ true → escaped_in class more (t ++ u) ≡ t ++ escaped_in class more u
  escaped-allowed [] u h = refl
  escaped-allowed (b ∷ t) u h =
      let both = and_parts _ _ h in stays_allowed b (t ++ u) both.0 ∙ ap (λ l. b ∷ l) (escaped-allowed t u both.1)

  pub escaped-twice : (t : List ℕ) → escaped_in class more (escaped_in class more t) ≡ escaped_in class more t
  escaped-twice [] = refl
  escaped-twice (b ∷ t) = by_allowed (may_stand class more b) refl (is_escape b t) refl (escaped-twice t)
    where
      by_allowed : (v : Bool) → may_stand class more b ≡ v → (w : Bool) → is_escape b t ≡ w
          → escaped_in class more (escaped_in class more t) ≡ escaped_in class more t
          → escaped_in class more (escaped_in class more (b ∷ t)) ≡ escaped_in class more (b ∷ t)
      by_allowed true e w f h =
          ap (escaped_in class more) (stays_allowed b t e) ∙ stays_allowed b (escaped_in class more t) e ∙ ap (λ l. b ∷ l) h ∙ sym (stays_allowed b t e)
      by_allowed false e true f h =
          ap (escaped_in class more) (stays_escape b t f) ∙ stays_escape b (escaped_in class more t) (escape_stays b t f) ∙ ap (λ l. b ∷ l) h
          ∙ sym (stays_escape b t f)
      by_allowed false e false f h =
          let is = becomes b t (rw (e, f) refl) in
          ap (escaped_in class more) is
          ∙ stays_escape percent (high_digit b ∷ low_digit b ∷ escaped_in class more t) (written_escape b (escaped_in class more t))
          ∙ ap (λ l. percent ∷ l) (stay_digits (high_digit b) (low_digit b) (escaped_in class more t) (high_is_hex b) (low_is_hex b)
          ∙ ap (λ l. high_digit b ∷ low_digit b ∷ l) h)
          ∙ sym is

  -- ---- what the bytes are

  module _ (p : ℕ → Bool) (sign : p percent ≡ true) (digit : (b : ℕ) → is_hex b ≡ true → p b ≡ true) where
    escape_passes : (b : ℕ) (t : List ℕ) → list_all p t ≡ true → list_all p (percent ∷ high_digit b ∷ low_digit b ∷ t) ≡ true
    escape_passes b t h =
        and_from _ _ sign (and_from _ _ (digit (high_digit b) (high_is_hex b)) (and_from _ _ (digit (low_digit b) (low_is_hex b)) h))

    sign_passes : (b : ℕ) (t : List ℕ) → is_escape b t ≡ true → p b ≡ true
    sign_passes b t is = ap p (escape_at b t is).sign ∙ sign

    -- bytes that pass, `%` and digits are all that there is, if those that stay pass
    pub escaped-bytes : (t : List ℕ) → list_all (λ b. not (may_stand class more b) || p b) t ≡ true → list_all p (escaped_in class more t) ≡ true
    escaped-bytes [] h = refl
    escaped-bytes (b ∷ t) h =
        let both = and_parts _ _ h in by_allowed (may_stand class more b) refl (is_escape b t) refl both.0 (escaped-bytes t both.1)
      where
        by_allowed : (v : Bool) → may_stand class more b ≡ v → (w : Bool) → is_escape b t ≡ w → (not (may_stand class more b) || p b) ≡ true
            → list_all p (escaped_in class more t) ≡ true → list_all p (escaped_in class more (b ∷ t)) ≡ true
        by_allowed true e w f k g =
            ap (list_all p) (stays_allowed b t e) ∙ and_from _ _ (sym (ap (λ v. not v || p b) e) ∙ k) g
        by_allowed false e true f k g = ap (list_all p) (stays_escape b t f) ∙ and_from _ _ (sign_passes b t f) g
        by_allowed false e false f k g = ap (list_all p) (becomes b t (rw (e, f) refl)) ∙ escape_passes b (escaped_in class more t) g

    pub escaped-all : (t : List ℕ) → list_all p t ≡ true → list_all p (escaped_in class more t) ≡ true
    escaped-all t h = escaped-bytes t (each t h)
      where
        each : (t : List ℕ) → list_all p t ≡ true → list_all (λ b. not (may_stand class more b) || p b) t ≡ true
        each [] h = refl
        each (b ∷ t) h =
            let both = and_parts _ _ h in
            and_from _ _ (ap (λ v. not (may_stand class more b) || v) both.0 ∙ or_true (not (may_stand class more b))) (each t both.1)

  -- ---- the class

  fault-escaped : (t : List ℕ) → list_all (λ b. not (is_among more b)) t ≡ true → fault class (escaped_in class more t) ≡ None
  fault-escaped [] h = fault-nil class
  fault-escaped (b ∷ t) h =
      let both = and_parts _ _ h in by_plain (is_plain class b) refl (is_escape b t) refl (not-true (is_among more b) both.0) (fault-escaped t both.1)
    where
      by_plain : (v : Bool) → is_plain class b ≡ v → (w : Bool) → is_escape b t ≡ w → is_among more b ≡ false
          → fault class (escaped_in class more t) ≡ None → fault class (escaped_in class more (b ∷ t)) ≡ None
      by_plain true e w f k g = ap (fault class) (stays_plain b t e) ∙ fault-plain class b (escaped_in class more t) e ∙ g
      by_plain false e true f k g =
          ap (fault class) (stays_escape b t f)
          ∙ fault-begins_fine class b (escaped_in class more t) (fine_escape class b (escaped_in class more t) (escape_stays b t f)) ∙ g
      by_plain false e false f k g =
          let rest = escaped_in class more t in
          ap (fault class) (becomes b t (rw (e, k, f) refl))
          ∙ fault-begins_fine class percent (high_digit b ∷ low_digit b ∷ rest)
          (fine_escape class percent (high_digit b ∷ low_digit b ∷ rest) (written_escape b rest))
          ∙ fault-plain class (high_digit b) (low_digit b ∷ rest) (hex_plain class (high_digit b) (high_is_hex b))
          ∙ fault-plain class (low_digit b) rest (hex_plain class (low_digit b) (low_is_hex b)) ∙ g

  pub IsIn-escaped : (t : List ℕ) → list_all (λ b. not (is_among more b)) t ≡ true → IsIn class (escaped_in class more t)
  IsIn-escaped t h = (no_fault class (escaped_in class more t)).0 (fault-escaped t h)

  -- ---- cuts at bytes that stay

  module _ (p : ℕ → Bool) (sign : p percent ≡ false) (digit : (b : ℕ) → is_hex b ≡ true → p b ≡ false) (kept : (b : ℕ) → p b ≡ true → may_stand class more b ≡ true) where
    odd_fails : (b : ℕ) → may_stand class more b ≡ false → p b ≡ false
    odd_fails b e = by_test (p b) refl
      where
        by_test : (v : Bool) → p b ≡ v → v ≡ false
        by_test true f = absurd (false≢true (sym e ∙ kept b f))
        by_test false f = refl

    -- the bytes before the first of them that pass another test
    pub escaped-front : (q : ℕ → Bool) → q percent ≡ false → ((b : ℕ) → is_hex b ≡ true → q b ≡ false) → ((b : ℕ) → q b ≡ true → may_stand class more b ≡ true)
        → (t : List ℕ) → none_pass q (up_to p (escaped_in class more t)) ≡ none_pass q (up_to p t)
    escaped-front q no_sign no_digit stay [] = refl
    escaped-front q no_sign no_digit stay (b ∷ t) =
        by_stays (may_stand class more b || is_escape b t) refl (may_stand class more b) refl (escaped-front q no_sign no_digit stay t)
      where
        odd_lacks : may_stand class more b ≡ false → q b ≡ false
        odd_lacks e = by_test (q b) refl
          where
            by_test : (v : Bool) → q b ≡ v → v ≡ false
            by_test true f = absurd (false≢true (sym e ∙ stay b f))
            by_test false f = refl

        by_stays : (v : Bool) → (may_stand class more b || is_escape b t) ≡ v → (w : Bool) → may_stand class more b ≡ w
            → none_pass q (up_to p (escaped_in class more t)) ≡ none_pass q (up_to p t)
            → none_pass q (up_to p (escaped_in class more (b ∷ t))) ≡ none_pass q (up_to p (b ∷ t))
        by_stays true e w f h =
            ap (λ u. none_pass q (up_to p u)) (stays b t e)
            ∙ elim (p b) as (λ v. none_pass q (cond v [] (b ∷ up_to p (escaped_in class more t))) ≡ none_pass q (cond v [] (b ∷ up_to p t)))
            [ true ↦ refl | false ↦ ap (λ v. not (q b) && v) h ]
        by_stays false e true f h = absurd (cc (sym e ∙ ap (λ v. v || is_escape b t) f))
        by_stays false e false f h =
            ap (λ u. none_pass q (up_to p u)) (becomes b t e)
            ∙ rw (
              sign,
              digit (high_digit b) (high_is_hex b),
              digit (low_digit b) (low_is_hex b),
              odd_fails b f,
              odd_lacks f,
              no_sign,
              no_digit (high_digit b) (high_is_hex b),
              no_digit (low_digit b) (low_is_hex b),
            ) h

    -- a first piece and the others
    split_front : (t : List ℕ) → (ss : List (List ℕ)) × (slice_split p t ≡ up_to p t ∷ ss)
    split_front [] = ([], refl)
    split_front (b ∷ t) = by_test (p b) refl (split_front t)
      where
        by_test : (v : Bool) → p b ≡ v → ((ss : List (List ℕ)) × (slice_split p t ≡ up_to p t ∷ ss)) → (ss : List (List ℕ)) × (slice_split p (b ∷ t) ≡ up_to p (b ∷ t) ∷ ss)
        by_test true e h = (slice_split p t, slice_split-cons_yes p b t e ∙ ap (λ v. cond v [] (b ∷ up_to p t) ∷ slice_split p t) (sym e))
        by_test false e h = (h.0, slice_split-cons_no p b t e ∙ ap (onto_first b) h.1 ∙ ap (λ v. cond v [] (b ∷ up_to p t) ∷ h.0) (sym e))

    -- the look-ahead for an escape ends before such a byte
    escape_in_front : (b : ℕ) (t : List ℕ) → is_escape b (up_to p t) ≡ is_escape b t
    escape_in_front b [] = refl
    escape_in_front b (c ∷ []) = elim (p c) as (λ v. is_escape b (cond v [] (c ∷ [])) ≡ false) [ true ↦ refl | false ↦ refl ]
    escape_in_front b (c ∷ d ∷ t) = by_first (p c) refl
      where
        never : (v w : Bool) → w ≡ false → (v && w) ≡ false
        never true w e = e
        never false w e = refl

        no_digit_at : (c : ℕ) → p c ≡ true → is_hex c ≡ false
        no_digit_at c e = by_test (is_hex c) refl
          where
            by_test : (v : Bool) → is_hex c ≡ v → v ≡ false
            by_test true f = absurd (false≢true (sym (digit c f) ∙ e))
            by_test false f = refl

        by_second : (w : Bool) → p d ≡ w → is_escape b (c ∷ cond w [] (d ∷ up_to p t)) ≡ is_escape b (c ∷ d ∷ t)
        by_second true f = sym (never (b == percent && is_hex c) (is_hex d) (no_digit_at d f))
        by_second false f = refl

        by_first : (v : Bool) → p c ≡ v → is_escape b (cond v [] (c ∷ up_to p (d ∷ t))) ≡ is_escape b (c ∷ d ∷ t)
        by_first true e = sym (ap (λ v. v && is_hex d) (never (b == percent) (is_hex c) (no_digit_at c e)))
        by_first false e = by_second (p d) refl

    -- the pieces between such bytes are escaped one by one
    pub escaped-pieces : (t : List ℕ) → slice_split p (escaped_in class more t) ≡ map (escaped_in class more) (slice_split p t)
    escaped-pieces [] = refl
    escaped-pieces (b ∷ t) = by_test (p b) refl (may_stand class more b || is_escape b t) refl (escaped-pieces t)
      where
        by_test : (v : Bool) → p b ≡ v → (w : Bool) → (may_stand class more b || is_escape b t) ≡ w
            → slice_split p (escaped_in class more t) ≡ map (escaped_in class more) (slice_split p t)
            → slice_split p (escaped_in class more (b ∷ t)) ≡ map (escaped_in class more) (slice_split p (b ∷ t))
        by_test true e w f h =
            ap (slice_split p) (stays_allowed b t (kept b e)) ∙ slice_split-cons_yes p b (escaped_in class more t) e ∙ ap (λ l. [] ∷ l) h
            ∙ sym (ap (map (escaped_in class more)) (slice_split-cons_yes p b t e))
        by_test false e true f h =
            let front = split_front t in
            let same : (may_stand class more b || is_escape b (up_to p t)) ≡ true = ap (λ v. may_stand class more b || v) (escape_in_front b t) ∙ f in
            ap (slice_split p) (stays b t f) ∙ slice_split-cons_no p b (escaped_in class more t) e ∙ ap (onto_first b) h
            ∙ ap (λ l. onto_first b (map (escaped_in class more) l)) front.1
            ∙ ap (λ l. l ∷ map (escaped_in class more) front.0) (sym (stays b (up_to p t) same))
            ∙ sym (ap (map (escaped_in class more)) (slice_split-cons_no p b t e ∙ ap (onto_first b) front.1))
        by_test false e false f h =
            let front = split_front t in
            let rest = escaped_in class more t in
            let same : (may_stand class more b || is_escape b (up_to p t)) ≡ false = ap (λ v. may_stand class more b || v) (escape_in_front b t) ∙ f in
            ap (slice_split p) (becomes b t f)
            ∙ slice_split-cons_no p percent (high_digit b ∷ low_digit b ∷ rest) sign
            ∙ ap (onto_first percent) (slice_split-cons_no p (high_digit b) (low_digit b ∷ rest) (digit (high_digit b) (high_is_hex b))
            ∙ ap (onto_first (high_digit b)) (slice_split-cons_no p (low_digit b) rest (digit (low_digit b) (low_is_hex b))
            ∙ ap (onto_first (low_digit b)) (h ∙ ap (map (escaped_in class more)) front.1)))
            ∙ ap (λ l. l ∷ map (escaped_in class more) front.0) (sym (becomes b (up_to p t) same))
            ∙ sym (ap (map (escaped_in class more)) (slice_split-cons_no p b t e ∙ ap (onto_first b) front.1))

  -- ---- the bytes that are represented

  never : (v w : Bool) → w ≡ false → (v && w) ≡ false
  never true w e = e
  never false w e = refl

  no_first : (b c : ℕ) (t : List ℕ) → is_hex c ≡ false → is_escape b (c ∷ t) ≡ false
  no_first b c [] e = refl
  no_first b c (d ∷ t) e = ap (λ v. v && is_hex d) (never (b == percent) (is_hex c) e)

  no_second : (b c d : ℕ) (t : List ℕ) → is_hex d ≡ false → is_escape b (c ∷ d ∷ t) ≡ false
  no_second b c d t e = never (b == percent && is_hex c) (is_hex d) e

  -- a byte that is no digit is followed by what is escaped of the rest, and no digit comes before that
  no_digit_front : (c : ℕ) (t : List ℕ) → is_hex c ≡ false → (x : ℕ) × (u : List ℕ) × (escaped_in class more (c ∷ t) ≡ x ∷ u) × (is_hex x ≡ false)
  no_digit_front c t e = by_stays (may_stand class more c || is_escape c t) refl
    where
      by_stays : (v : Bool) → (may_stand class more c || is_escape c t) ≡ v
          → (x : ℕ) × (u : List ℕ) × (escaped_in class more (c ∷ t) ≡ x ∷ u) × (is_hex x ≡ false)
      by_stays true f = (c, escaped_in class more t, stays c t f, e)
      by_stays false f = (percent, high_digit c ∷ low_digit c ∷ escaped_in class more t, becomes c t f, refl)

  second_same : (b c : ℕ) (t : List ℕ) → is_escape b (c ∷ escaped_in class more t) ≡ is_escape b (c ∷ t)
  second_same b c [] = refl
  second_same b c (d ∷ t) = by_digit (is_hex d) refl
    where
      by_digit : (v : Bool) → is_hex d ≡ v → is_escape b (c ∷ escaped_in class more (d ∷ t)) ≡ is_escape b (c ∷ d ∷ t)
      by_digit true e = ap (λ u. is_escape b (c ∷ u)) (stays_plain d t (hex_plain class d e))
      by_digit false e =
          let o = no_digit_front d t e in
          ap (λ u. is_escape b (c ∷ u)) o.2 ∙ no_second b c o.0 o.1 o.3 ∙ sym (no_second b c d t e)

  escape_same : (b : ℕ) (t : List ℕ) → is_escape b (escaped_in class more t) ≡ is_escape b t
  escape_same b [] = refl
  escape_same b (c ∷ t) = by_digit (is_hex c) refl
    where
      by_digit : (v : Bool) → is_hex c ≡ v → is_escape b (escaped_in class more (c ∷ t)) ≡ is_escape b (c ∷ t)
      by_digit true e = ap (is_escape b) (stays_plain c t (hex_plain class c e)) ∙ second_same b c t
      by_digit false e = let o = no_digit_front c t e in ap (is_escape b) o.2 ∙ no_first b o.0 o.1 o.3 ∙ sym (no_first b c t e)

  escape_same_bytes : (b : ℕ) (t : List ℕ) → is_escape b t ≡ true → decoded (escaped_in class more (drop 2 t)) ≡ decoded (drop 2 t)
      → decoded (b ∷ escaped_in class more t) ≡ decoded (b ∷ t)
  escape_same_bytes b [] is h = absurd (false≢true is)
  escape_same_bytes b (c ∷ []) is h = absurd (false≢true is)
  escape_same_bytes b (high ∷ low ∷ t) is h =
      let d = escape_digits b high low t is in
      let rest = escaped_in class more t in
      ap (λ u. decoded (b ∷ u)) (stay_digits high low t d.0 d.1)
      ∙ decoded-cons (b ∷ high ∷ low ∷ rest) rest (Escape high low) (tokens-escape b (high ∷ low ∷ rest) is)
      ∙ ap (λ u. escaped_byte high low ∷ u) h
      ∙ sym (decoded-cons (b ∷ high ∷ low ∷ t) t (Escape high low) (tokens-escape b (high ∷ low ∷ t) is))

  decoded_front : (b : ℕ) (t : List ℕ) → b < 256 → decoded (escaped_in class more t) ≡ decoded t
      → decoded (escaped_in class more (drop 2 t)) ≡ decoded (drop 2 t) → decoded (escaped_in class more (b ∷ t)) ≡ decoded (b ∷ t)
  decoded_front b t small h k = by_escape (is_escape b t) refl (may_stand class more b) refl
    where
      rest : List ℕ
      rest = escaped_in class more t

      by_escape : (v : Bool) → is_escape b t ≡ v → (w : Bool) → may_stand class more b ≡ w → decoded (escaped_in class more (b ∷ t)) ≡ decoded (b ∷ t)
      by_escape true e w f = ap decoded (stays_escape b t e) ∙ escape_same_bytes b t e k
      by_escape false e true f =
          ap decoded (stays_allowed b t f)
          ∙ decoded-cons (b ∷ rest) rest (Byte b) (tokens-byte b rest (escape_same b t ∙ e))
          ∙ ap (λ u. b ∷ u) h
          ∙ sym (decoded-cons (b ∷ t) t (Byte b) (tokens-byte b t e))
      by_escape false e false f =
          ap decoded (becomes b t (rw (f, e) refl))
          ∙ decoded-cons (percent ∷ high_digit b ∷ low_digit b ∷ rest) rest (Escape (high_digit b) (low_digit b))
          (tokens-escape percent (high_digit b ∷ low_digit b ∷ rest) (written_escape b rest))
          ∙ ap (λ x. x ∷ decoded rest) (written_value b small) ∙ ap (λ u. b ∷ u) h
          ∙ sym (decoded-cons (b ∷ t) t (Byte b) (tokens-byte b t e))

  byte_front : (b : ℕ) (t : List ℕ) → are_bytes (b ∷ t) ≡ true → (b < 256) × (are_bytes t ≡ true)
  byte_front b t h = let both = and_parts (is_in_range 0 255 b) (are_bytes t) h in (small_byte b both.0, both.1)

  -- the text represents the same bytes as before
  pub decoded-escaped : (t : List ℕ) → are_bytes t ≡ true → decoded (escaped_in class more t) ≡ decoded t
  decoded-escaped [] h = refl
  decoded-escaped (b ∷ []) h = let x = byte_front b [] h in decoded_front b [] x.0 refl refl
  decoded-escaped (b ∷ c ∷ []) h =
      let x = byte_front b (c ∷ []) h in decoded_front b (c ∷ []) x.0 (decoded_front c [] (byte_front c [] x.1).0 refl refl) refl
  decoded-escaped (b ∷ c ∷ d ∷ t) h =
      let x = byte_front b (c ∷ d ∷ t) h in
      let y = byte_front c (d ∷ t) x.1 in
      let z = byte_front d t y.1 in
      decoded_front b (c ∷ d ∷ t) x.0 (decoded-escaped (c ∷ d ∷ t) x.1) (decoded-escaped t z.1)

-- ---- UTF-8

pub ascii_text : (t : List ℕ) → list_all (λ b. nat_lt b 128) t ≡ true → IsUtf8 t
ascii_text t h = IsUtf8-from_ascii t (IsAscii-from_all t (each t h))
  where
    each : (t : List ℕ) → list_all (λ b. nat_lt b 128) t ≡ true → All (λ b. b < 128) t
    each [] h = All-nil (λ b. b < 128)
    each (b ∷ t) h = let both = and_parts _ _ h in All-cons (λ b. b < 128) b t (ltb-true b 128 both.0) (each t both.1)
