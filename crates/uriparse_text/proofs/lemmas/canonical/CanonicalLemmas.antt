-- The canonical spelling, token by token.
use Rattle.std.proofs.Common.{◌≡◌, ◌↔◌, ℕ, true, false, not, ◌&&◌, List, [], ◌∷◌, ◌++◌, map, refl, sym, ap, ◌∙◌, arith}
use Rattle.std.specs.Prelude.{◌==◌}
use Rattle.std.specs.List.{flat_map, list_all}
use Rattle.std.specs.Char.{digit_value, to_ascii_uppercase}
use Rattle.std.proofs.lemmas.Bool.{false≢true, cond-false, cond_both, and_from, and_parts}
use Rattle.std.proofs.lemmas.Bool.Decides.{nat_tests}
use Rattle.std.proofs.lemmas.List.{map-append, append_cancel_left}
use Rattle.std.proofs.lemmas.Grind.{flat_map-append}
use Rattle.uriparse_text.specs.declared.internal.token.Token.{Token}
use Rattle.uriparse_text.specs.declared.internal.token.Token.TheVariants.{Byte, Escape}
use Rattle.uriparse_text.specs.declared.internal.token.Case.{Case}
use Rattle.uriparse_text.specs.declared.internal.token.Case.TheVariants.{Kept, Lowered}
use Rattle.uriparse_text.specs.Bytes.{percent, is_hex, is_unreserved}
use Rattle.uriparse_text.specs.Tokens.{tokens, spell, is_token, has_digits, is_well_formed, IsConcatenation}
use Rattle.uriparse_text.specs.Canonical.{canonical_token, canonical_tokens, escaped_byte, in_case, canonical_in, SpellsAlike}
use Rattle.uriparse_text.proofs.lemmas.tokens.TokenLemmas.{tokens-nil, tokens_of_concatenation, tokens-append, digits-tokens}

pub canonical_tokens-empty : (case : Case) (text : List ℕ) → text ≡ [] → canonical_tokens case text ≡ []
canonical_tokens-empty case text e = ap (canonical_tokens case) e ∙ ap (map (canonical_token case)) tokens-nil

-- ---- one token

pub upper_digit : (b : ℕ) → is_hex b ≡ true → is_hex (to_ascii_uppercase b) ≡ true
upper_digit b h = grind (arith, nat_tests)

pub upper_value : (b : ℕ) → is_hex b ≡ true → digit_value (to_ascii_uppercase b) ≡ digit_value b
upper_value b h = grind (arith, nat_tests)

pub upper_twice : (b : ℕ) → to_ascii_uppercase (to_ascii_uppercase b) ≡ to_ascii_uppercase b
upper_twice b = grind (arith, nat_tests)

in_case_twice : (case : Case) (b : ℕ) → in_case case (in_case case b) ≡ in_case case b
in_case_twice Kept b = refl
in_case_twice Lowered b = grind (arith, nat_tests)

in_case_percent : (case : Case) (b : ℕ) → (in_case case b == percent) ≡ (b == percent)
in_case_percent Kept b = refl
in_case_percent Lowered b = grind (arith, nat_tests)

unreserved_not_percent : (b : ℕ) → is_unreserved b ≡ true → not (b == percent) ≡ true
unfolding is_unreserved
unreserved_not_percent b h = grind (arith, nat_tests)

-- what holds of both outcomes holds of an escape's canonical form
pub by_escaped : (case : Case) (high low : ℕ) (P : Token → Type 0)
    → (is_unreserved (escaped_byte high low) ≡ true → P (Byte (in_case case (escaped_byte high low))))
    → (is_unreserved (escaped_byte high low) ≡ false → P (Escape (to_ascii_uppercase high) (to_ascii_uppercase low))) →
    P (canonical_token case (Escape high low))
by_escaped case high low P f g =
    cond_both (is_unreserved (escaped_byte high low)) (Byte (in_case case (escaped_byte high low)))
    (Escape (to_ascii_uppercase high) (to_ascii_uppercase low)) P f g

-- a canonical form is a token exactly if it is one of a token
pub is_token-canonical_token : (case : Case) (t : Token) → has_digits t ≡ true → is_token (canonical_token case t) ≡ is_token t
is_token-canonical_token case (Byte b) h = ap not (in_case_percent case b)
is_token-canonical_token case (Escape high low) h =
    let both = and_parts _ _ h in
    by_escaped case high low (λ t. is_token t ≡ (is_hex high && is_hex low))
    (λ e. ap not (in_case_percent case (escaped_byte high low)) ∙ unreserved_not_percent _ e ∙ sym h)
    (λ e. and_from _ _ (upper_digit high both.0) (upper_digit low both.1) ∙ sym h)

-- a canonical form is its own canonical form
pub canonical_token-canonical_token : (case : Case) (t : Token) → is_token t ≡ true → canonical_token case (canonical_token case t) ≡ canonical_token case t
canonical_token-canonical_token case (Byte b) h = ap Byte (in_case_twice case b)
canonical_token-canonical_token case (Escape high low) h =
    let both = and_parts _ _ h in
    by_escaped case high low (λ t. canonical_token case t ≡ t)
    (λ e. ap Byte (in_case_twice case (escaped_byte high low)))
    (λ e. let same : escaped_byte (to_ascii_uppercase high) (to_ascii_uppercase low) ≡ escaped_byte high low =
    rw (upper_value high both.0, upper_value low both.1) refl in
    cond-false _ _ _ (ap is_unreserved same ∙ e) ∙ rw (upper_twice high, upper_twice low) refl)

-- ---- a text

pub spell-canonical_token : (case : Case) (text : List ℕ) → flat_map spell (canonical_tokens case text) ≡ canonical_in case text
unfolding canonical_in
spell-canonical_token case text = refl

all_tokens : (case : Case) (ts : List Token) → list_all has_digits ts ≡ true → list_all is_token (map (canonical_token case) ts) ≡ list_all is_token ts
all_tokens case [] h = refl
all_tokens case (t ∷ ts) h =
    let both = and_parts _ _ h in
    rw (is_token-canonical_token case t both.0, all_tokens case ts both.1) refl

-- the canonical forms are tokens exactly if the text is well formed
pub well_formed-canonical_token : (case : Case) (text : List ℕ) → list_all is_token (canonical_tokens case text) ≡ is_well_formed text
well_formed-canonical_token case text = all_tokens case (tokens text) (digits-tokens text)

pub tokens-canonical_in : (case : Case) (text : List ℕ) → is_well_formed text ≡ true → tokens (canonical_in case text) ≡ canonical_tokens case text
unfolding canonical_in
tokens-canonical_in case text h =
    tokens_of_concatenation (canonical_tokens case text) (well_formed-canonical_token case text ∙ h)

twice : (case : Case) (ts : List Token) → list_all is_token ts ≡ true →
    map (canonical_token case) (map (canonical_token case) ts) ≡ map (canonical_token case) ts
twice case [] h = refl
twice case (t ∷ ts) h =
    let both = and_parts _ _ h in
    rw (canonical_token-canonical_token case t both.0, twice case ts both.1) refl

-- the canonical spelling of a canonical spelling is that spelling
pub canonical_in-canonical_in : (case : Case) (text : List ℕ) → is_well_formed text ≡ true → canonical_in case (canonical_in case text) ≡ canonical_in case text
unfolding canonical_in
canonical_in-canonical_in case text h =
    ap (λ ts. flat_map spell (map (canonical_token case) ts)) (tokens-canonical_in case text h) ∙ ap (flat_map spell) (twice case (tokens text) h)

pub canonical_tokens-append : (case : Case) (front rest : List ℕ) → is_well_formed front ≡ true
    → canonical_tokens case (front ++ rest) ≡ canonical_tokens case front ++ canonical_tokens case rest
canonical_tokens-append case front rest h =
    ap (map (canonical_token case)) (tokens-append front rest h) ∙ map-append (canonical_token case) (tokens front) (tokens rest)

-- the canonical spelling of a text that is cut at a border of tokens
pub canonical_in-append : (case : Case) (front rest : List ℕ) → is_well_formed front ≡ true
    → canonical_in case (front ++ rest) ≡ canonical_in case front ++ canonical_in case rest
unfolding canonical_in
canonical_in-append case front rest h =
    ap (flat_map spell) (canonical_tokens-append case front rest h)
    ∙ flat_map-append spell (canonical_tokens case front) (canonical_tokens case rest)

-- however a text is put together from tokens, its canonical spelling is that of these tokens
pub canonical_in-concatenation : (case : Case) (ts : List Token) (text : List ℕ) → IsConcatenation ts text
    → canonical_in case text ≡ flat_map (λ t. spell (canonical_token case t)) ts
unfolding canonical_in
canonical_in-concatenation case ts text is =
    ap (λ us. flat_map spell (map (canonical_token case) us)) (ap tokens is.whole ∙ tokens_of_concatenation ts is.each) ∙ along ts
  where
    along : (us : List Token) → flat_map spell (map (canonical_token case) us) ≡ flat_map (λ t. spell (canonical_token case t)) us
    along [] = refl
    along (u ∷ us) = ap (λ x. spell (canonical_token case u) ++ x) (along us)

-- texts have the same canonical tokens exactly if they have one canonical spelling
pub same_tokens : (case : Case) (bytes text : List ℕ) → is_well_formed text ≡ true
    → (canonical_tokens case bytes ≡ canonical_tokens case text) ↔ SpellsAlike case bytes text
unfolding canonical_in
same_tokens case bytes text h = (
  λ e. record {
    formed = sym (well_formed-canonical_token case bytes) ∙ ap (list_all is_token) e ∙ well_formed-canonical_token case text ∙ h;
    same = ap (flat_map spell) e;
  },
  λ s. sym (tokens-canonical_in case bytes s.formed) ∙ ap tokens s.same ∙ tokens-canonical_in case text h,
)

-- ---- which texts are canonical

pub canonical_in-nil : (case : Case) → canonical_in case [] ≡ []
unfolding canonical_in
canonical_in-nil case = ap (λ ts. flat_map spell (map (canonical_token case) ts)) tokens-nil

pub canonical_in-cons : (case : Case) (rest after : List ℕ) (t : Token) → tokens rest ≡ t ∷ tokens after
    → canonical_in case rest ≡ spell (canonical_token case t) ++ canonical_in case after
unfolding canonical_in
canonical_in-cons case rest after t e = ap (λ ts. flat_map spell (map (canonical_token case) ts)) e

cancel : (t : Token) (x y : List ℕ) → spell t ++ x ≡ spell t ++ y → x ≡ y
cancel (Byte b) x y h = cc
cancel (Escape high low) x y h = cc

-- a canonical token more
pub canonical_more : (case : Case) (rest after : List ℕ) (t : Token) → tokens rest ≡ t ∷ tokens after → rest ≡ spell t ++ after → canonical_token case t ≡ t
    → (canonical_in case after ≡ after) ↔ (canonical_in case rest ≡ rest)
canonical_more case rest after t e f g =
    let spelled : canonical_in case rest ≡ spell t ++ canonical_in case after = canonical_in-cons case rest after t e
    ∙ ap (λ u. spell u ++ canonical_in case after) g in (
      λ h. spelled ∙ ap (λ u. spell t ++ u) h ∙ sym f,
      λ h. cancel t (canonical_in case after) after (sym spelled ∙ h ∙ f),
    )

-- a run that stays as it is, in front
pub canonical_following : (case : Case) (whole run rest : List ℕ) → whole ≡ run ++ rest → canonical_in case whole ≡ run ++ canonical_in case rest
    → (canonical_in case rest ≡ rest) ↔ (canonical_in case whole ≡ whole)
canonical_following case whole run rest e f =
    (λ h. f ∙ ap (λ u. run ++ u) h ∙ sym e, λ h. append_cancel_left run (canonical_in case rest) rest (sym f ∙ h ∙ e))

not_percent : (case : Case) (b : ℕ) → is_unreserved b ≡ true → in_case case b ≡ percent → ⊥
not_percent case b h e =
    let no : not (in_case case b == percent) ≡ true = ap not (in_case_percent case b) ∙ unreserved_not_percent b h in
    false≢true (sym (ap (λ c. not (c == percent)) e) ∙ no)

token_differs : (case : Case) (t : Token) (x y : List ℕ) → (canonical_token case t ≡ t → ⊥) → spell (canonical_token case t) ++ x ≡ spell t ++ y → ⊥
token_differs case (Byte b) x y n h = n (let same : in_case case b ≡ b = cc in ap Byte same)
token_differs case (Escape high low) x y n h =
    by_escaped case high low (λ u. (u ≡ Escape high low → ⊥) → spell u ++ x ≡ percent ∷ high ∷ low ∷ y → ⊥)
    (λ e m k. let same : in_case case (escaped_byte high low) ≡ percent = cc in not_percent case (escaped_byte high low) e same)
    (λ e m k. let first : to_ascii_uppercase high ≡ high = cc in let second : to_ascii_uppercase low ≡ low = cc in m (rw (first, second) refl))
    n h

-- a token that isn't
pub canonical_never : (case : Case) (rest after : List ℕ) (t : Token) → tokens rest ≡ t ∷ tokens after → rest ≡ spell t ++ after →
    (canonical_token case t ≡ t → ⊥)
    → canonical_in case rest ≡ rest → ⊥
canonical_never case rest after t e f n h = token_differs case t (canonical_in case after) after n (sym (canonical_in-cons case rest after t e) ∙ h ∙ f)
