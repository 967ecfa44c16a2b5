-- The dot at the end of a fully qualified name, plain or escaped.
use Rattle.std.proofs.Common.{◌≡◌, ℕ, ◌<◌, Bool, true, false, cond, List, [], ◌∷◌, ◌++◌, length, map, flat_map, refl, sym, ap, ◌∙◌, subst, arith, append_assoc, ◌⊎◌, inl, inr}
use Rattle.std.specs.Prelude.{◌==◌, ◌||◌}
use Rattle.std.specs.Char.{digit_value, to_ascii_lowercase, to_ascii_uppercase}
use Rattle.std.specs.List.{list_all}
use Rattle.std.specs.Str.Parse.{AllDigits}
use Rattle.std.specs.Bool.{Decides}
use Rattle.std.proofs.lemmas.Bool.{and_parts, eq-eqb, eqb-true, false≢true}
use Rattle.std.proofs.lemmas.Bool.Decides.{nat_tests}
use Rattle.std.proofs.lemmas.Grind.{flat_map-append}
use Rattle.std.proofs.lemmas.List.{map-append}
use Rattle.std.proofs.lemmas.List.Folds.{list_all-append}
use Rattle.uriparse_text.specs.declared.internal.token.Token.{Token}
use Rattle.uriparse_text.specs.declared.internal.token.Token.TheVariants.{Byte, Escape}
use Rattle.uriparse_text.specs.declared.internal.token.Case.TheVariants.{Lowered}
use Rattle.uriparse_text.specs.Address.{SpellsIpv4}
use Rattle.uriparse_text.specs.Bytes.{dot, is_hex, is_unreserved}
use Rattle.uriparse_text.specs.Canonical.{canonical_in, canonical_lowered, canonical_token, escaped_byte}
use Rattle.uriparse_text.specs.Tokens.{has_digits, is_token, is_well_formed, spell, tokens}
use Rattle.uriparse_text.proofs.lemmas.canonical.CanonicalLemmas.{by_escaped}
use Rattle.uriparse_text.proofs.lemmas.tokens.TokenLemmas.{digits-tokens, spell-tokens, tokens-border, tokens-escape, tokens-mark, tokens-nil}
use Rattle.uriparse_authority.specs.Within.{has_escape, is_dot, is_percent, without_end_dot}
use Rattle.uriparse_authority.proofs.lemmas.hosts.WithinLemmas.{is_escaped_dot, value_dot}

-- ---- a dot at the end

pub without-end : (t : List ℕ) → without_end_dot (t ++ dot ∷ []) ≡ t
without-end [] = refl
without-end (b ∷ []) = refl
without-end (b ∷ c ∷ t) = ap (λ u. b ∷ u) (without-end (c ∷ t))

ends_in_dot : List ℕ → Bool
ends_in_dot [] = false
ends_in_dot (b ∷ []) = is_dot b
ends_in_dot (b ∷ c ∷ t) = ends_in_dot (c ∷ t)

kept-end : (t : List ℕ) → ends_in_dot t ≡ false → without_end_dot t ≡ t
unfolding ends_in_dot
kept-end [] e = refl
kept-end (b ∷ []) e = ap (λ v. cond v [] (b ∷ [])) e
kept-end (b ∷ c ∷ t) e = ap (λ u. b ∷ u) (kept-end (c ∷ t) e)

ends-append : (s : List ℕ) (b : ℕ) (t : List ℕ) → ends_in_dot (s ++ b ∷ t) ≡ ends_in_dot (b ∷ t)
unfolding ends_in_dot
ends-append [] b t = refl
ends-append (a ∷ []) b t = refl
ends-append (a ∷ c ∷ s) b t = ends-append (c ∷ s) b t

-- ---- which texts have one in canonical spelling

-- the text ends with a dot, plain or escaped
abbrev pub HasEndDot : List ℕ → Type 0
HasEndDot t = (front : List ℕ) × ((t ≡ front ++ 46 ∷ []) ⊎ ((t ≡ front ++ 37 ∷ 50 ∷ 69 ∷ []) ⊎ (t ≡ front ++ 37 ∷ 50 ∷ 101 ∷ [])))

dot_byte : (b : ℕ) → is_dot (to_ascii_lowercase b) ≡ true → b ≡ 46
dot_byte b h = grind (arith, nat_tests)

dot_escape : (high low : ℕ) → is_hex high ≡ true → is_hex low ≡ true → is_dot (to_ascii_lowercase (escaped_byte high low)) ≡ true
    → (high ≡ 50) × ((low ≡ 69) ⊎ (low ≡ 101))
dot_escape high low h k e = by_digits (is_escaped_dot high low) refl
  where
    by_low : (v : Bool) → (low == 69) ≡ v → (v || low == 101) ≡ true → (low ≡ 69) ⊎ (low ≡ 101)
    by_low true f g = inl (eqb-true low 69 f)
    by_low false f g = inr (eqb-true low 101 g)

    by_digits : (v : Bool) → is_escaped_dot high low ≡ v → (high ≡ 50) × ((low ≡ 69) ⊎ (low ≡ 101))
    by_digits true f = let both = and_parts _ _ f in (eqb-true high 50 both.0, by_low (low == 69) refl both.1)
    by_digits false f = absurd (value_dot high low h k f (dot_byte (escaped_byte high low) e))

upper_dot : (b : ℕ) → is_hex b ≡ true → is_dot (to_ascii_uppercase b) ≡ true → ⊥
upper_dot b h e = grind (arith, nat_tests)

one_token : (t : Token) → has_digits t ≡ true → ends_in_dot (spell (canonical_token Lowered t) ++ []) ≡ true → HasEndDot (spell t ++ [])
unfolding ends_in_dot
one_token (Byte b) d e = ([], inl (ap (λ c. c ∷ []) (dot_byte b e)))
one_token (Escape high low) d e =
    let digits = and_parts _ _ d in
    by_escaped Lowered high low (λ t. ends_in_dot (spell t ++ []) ≡ true → HasEndDot (37 ∷ high ∷ low ∷ []))
    (λ u k. escaped high low (dot_escape high low digits.0 digits.1 k)) (λ u k. absurd (upper_dot low digits.1 k)) e
  where
    escaped : (high low : ℕ) → (high ≡ 50) × ((low ≡ 69) ⊎ (low ≡ 101)) → HasEndDot (37 ∷ high ∷ low ∷ [])
    escaped high low (h, inl l) = ([], inr (inl (rw (h, l) refl)))
    escaped high low (h, inr l) = ([], inr (inr (rw (h, l) refl)))

more_front : (s t : List ℕ) → HasEndDot t → HasEndDot (s ++ t)
more_front s t (front, inl e) = (s ++ front, inl (ap (λ u. s ++ u) e ∙ sym (append_assoc s front (46 ∷ []))))
more_front s t (front, inr (inl e)) = (s ++ front, inr (inl (ap (λ u. s ++ u) e ∙ sym (append_assoc s front (37 ∷ 50 ∷ 69 ∷ [])))))
more_front s t (front, inr (inr e)) = (s ++ front, inr (inr (ap (λ u. s ++ u) e ∙ sym (append_assoc s front (37 ∷ 50 ∷ 101 ∷ [])))))

-- a token begins with a byte
pub record HasByte (t : List ℕ) : Type 0 where
  pub byte : ℕ
  pub after : List ℕ
  pub whole : t ≡ byte ∷ after

some_byte : (t : Token) → HasByte (spell (canonical_token Lowered t))
some_byte (Byte b) = record { byte = to_ascii_lowercase b; after = []; whole = refl }
some_byte (Escape high low) =
    by_escaped Lowered high low (λ t. HasByte (spell t)) (λ u. record { byte = to_ascii_lowercase (escaped_byte high low); after = []; whole = refl })
    (λ u. record { byte = 37; after = to_ascii_uppercase high ∷ to_ascii_uppercase low ∷ []; whole = refl })

ends_later : (s u v : List ℕ) → HasByte u → ends_in_dot (s ++ (u ++ v)) ≡ ends_in_dot (u ++ v)
ends_later s u v is =
    ap (λ x. ends_in_dot (s ++ (x ++ v))) is.whole ∙ ends-append s is.byte (is.after ++ v) ∙ ap (λ x. ends_in_dot (x ++ v)) (sym is.whole)

by_tokens : (ts : List Token) → list_all has_digits ts ≡ true → ends_in_dot (flat_map spell (map (canonical_token Lowered) ts)) ≡ true
    → HasEndDot (flat_map spell ts)
unfolding ends_in_dot
by_tokens [] d e = absurd (false≢true e)
by_tokens (t ∷ []) d e = one_token t (and_parts _ _ d).0 e
by_tokens (t ∷ x ∷ ts) d e =
    let digits = and_parts _ _ d in
    more_front (spell t) (flat_map spell (x ∷ ts)) (by_tokens (x ∷ ts) digits.1
    (sym (ends_later (spell (canonical_token Lowered t)) (spell (canonical_token Lowered x)) (flat_map spell (map (canonical_token Lowered) ts)) (some_byte x)) ∙ e))

-- a text that ends with neither keeps its end
pub no_end_dot : (t : List ℕ) → ((front : List ℕ) → t ≡ front ++ 46 ∷ [] → ⊥) → ((front : List ℕ) → t ≡ front ++ 37 ∷ 50 ∷ 69 ∷ [] → ⊥)
    → ((front : List ℕ) → t ≡ front ++ 37 ∷ 50 ∷ 101 ∷ [] → ⊥) → canonical_lowered t ≡ without_end_dot (canonical_lowered t)
unfolding canonical_in
no_end_dot t plain upper lower = by_end (ends_in_dot (canonical_lowered t)) refl
  where
    none : HasEndDot t → ⊥
    none (front, inl e) = plain front e
    none (front, inr (inl e)) = upper front e
    none (front, inr (inr e)) = lower front e

    by_end : (v : Bool) → ends_in_dot (canonical_lowered t) ≡ v → canonical_lowered t ≡ without_end_dot (canonical_lowered t)
    by_end false e = sym (kept-end (canonical_lowered t) e)
    by_end true e = absurd (none (subst HasEndDot (spell-tokens t) (by_tokens (tokens t) (digits-tokens t) e)))

-- ---- a text before it

-- the last token of a text is a dot
pub record IsBeforeDot (front t : List ℕ) : Type 0 where
  pub last : Token
  pub cut : tokens t ≡ tokens front ++ last ∷ []
  pub spelled : canonical_token Lowered last ≡ Byte dot

pub spelled-before : (front t : List ℕ) → IsBeforeDot front t → canonical_lowered front ≡ without_end_dot (canonical_lowered t)
unfolding canonical_in
spelled-before front t is =
    let whole : canonical_lowered t ≡ canonical_lowered front ++ dot ∷ [] =
    ap (λ ts. flat_map spell (map (canonical_token Lowered) ts)) is.cut
    ∙ ap (flat_map spell) (map-append (canonical_token Lowered) (tokens front) (is.last ∷ []))
    ∙ flat_map-append spell (map (canonical_token Lowered) (tokens front)) (canonical_token Lowered is.last ∷ [])
    ∙ ap (λ x. canonical_lowered front ++ (spell x ++ [])) is.spelled in
    sym (ap without_end_dot whole ∙ without-end (canonical_lowered front))

pub formed-before : (front t : List ℕ) → IsBeforeDot front t → is_well_formed t ≡ true → is_well_formed front ≡ true
formed-before front t is formed =
    (and_parts _ _ (sym (list_all-append is_token (tokens front) (is.last ∷ [])) ∙ sym (ap (list_all is_token) is.cut) ∙ formed)).0

pub before-plain : (front t : List ℕ) → t ≡ front ++ 46 ∷ [] → IsBeforeDot front t
before-plain front t e = record { last = Byte 46; cut = ap tokens e ∙ tokens-mark 46 refl refl front [] ∙ ap (λ ts. tokens front ++ Byte 46 ∷ ts) tokens-nil; spelled = refl }

escape_at_end : (front : List ℕ) (low : ℕ) → is_hex low ≡ true → tokens (front ++ 37 ∷ 50 ∷ low ∷ []) ≡ tokens front ++ Escape 50 low ∷ []
escape_at_end front low h =
    tokens-border 37 refl front (50 ∷ low ∷ [])
    ∙ ap (λ ts. tokens front ++ ts) (tokens-escape 37 (50 ∷ low ∷ []) h ∙ ap (λ ts. Escape 50 low ∷ ts) tokens-nil)

pub before-upper : (front t : List ℕ) → t ≡ front ++ 37 ∷ 50 ∷ 69 ∷ [] → IsBeforeDot front t
unfolding is_unreserved
before-upper front t e = record { last = Escape 50 69; cut = ap tokens e ∙ escape_at_end front 69 refl; spelled = refl }

pub before-lower : (front t : List ℕ) → t ≡ front ++ 37 ∷ 50 ∷ 101 ∷ [] → IsBeforeDot front t
unfolding is_unreserved
before-lower front t e = record { last = Escape 50 101; cut = ap tokens e ∙ escape_at_end front 101 refl; spelled = refl }

-- ---- what cutting off a suffix says

pub same_bytes : (a b : ℕ) → Decides (a == b) (a ≡ b)
same_bytes a b = (eqb-true a b, eq-eqb a b)

-- ---- the text of an address ends with a digit

digit_no_dot : (b : ℕ) → digit_value b < 10 → is_dot b ≡ false
digit_no_dot b h = grind (arith, nat_tests)

digits_end : (t : List ℕ) → 0 < length t → AllDigits 10 t → ends_in_dot t ≡ false
unfolding ends_in_dot
digits_end [] some all = absurd (omega (arith, some))
digits_end (b ∷ []) some all = digit_no_dot b all.0
digits_end (b ∷ c ∷ t) some all = digits_end (c ∷ t) (omega arith) all.1

digits_after : (s t : List ℕ) → 0 < length t → AllDigits 10 t → ends_in_dot (s ++ t) ≡ false
digits_after s [] some all = absurd (omega (arith, some))
digits_after s (b ∷ t) some all = ends-append s b t ∙ digits_end (b ∷ t) some all

pub address_end : (t a : List ℕ) → SpellsIpv4 t a → without_end_dot t ≡ t
address_end t a s = kept-end t (ap ends_in_dot s.whole ∙ digits_after _ s.fourth s.is_fourth.number.0.0 s.is_fourth.number.0.1)

-- ---- escapes

-- the dot at the end is no escape
pub escape-end : (t : List ℕ) → has_escape (without_end_dot t) ≡ has_escape t
escape-end [] = refl
escape-end (b ∷ []) = by_dot (is_dot b) refl
  where
    by_dot : (v : Bool) → is_dot b ≡ v → has_escape (cond v [] (b ∷ [])) ≡ has_escape (b ∷ [])
    by_dot true e = let other : is_percent b ≡ false = grind (arith, nat_tests) in sym (ap (λ v. v || false) other)
    by_dot false e = refl
escape-end (b ∷ c ∷ t) = ap (λ v. is_percent b || v) (escape-end (c ∷ t))
