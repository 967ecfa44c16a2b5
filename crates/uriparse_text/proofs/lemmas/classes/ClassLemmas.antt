-- What a text of a class is known to be.
use Rattle.std.proofs.Common.{◌≡◌, ℕ, ◌+◌, ◌<◌, ◌≤◌, Bool, true, false, not, cond, nat_lt, List, [], ◌∷◌, map, flat_map, All, IsAscii, IsUtf8, refl, sym, ap}
use Rattle.std.proofs.Common.{◌∙◌, subst, arith}
use Rattle.std.specs.Prelude.{◌==◌}
use Rattle.std.specs.List.{list_all}
use Rattle.std.proofs.lemmas.Bool.{and_from, and_parts, cond_both, false≢true, eqb-true, ltb-true, ltb-false}
use Rattle.std.proofs.lemmas.Bool.Decides.{nat_tests}
use Rattle.std.proofs.lemmas.List.Elements.{All-nil, All-cons, All-append}
use Rattle.std.proofs.lemmas.List.Folds.{list_all-append}
use Rattle.std.proofs.lemmas.Str.{IsUtf8-from_ascii}
use Rattle.std.proofs.lemmas.Str.Ascii.{IsAscii-from_all}
use Rattle.uriparse_text.specs.declared.internal.token.Token.{Token}
use Rattle.uriparse_text.specs.declared.internal.token.Token.TheVariants.{Byte, Escape}
use Rattle.uriparse_text.specs.declared.internal.class.Class.{Class}
use Rattle.uriparse_text.specs.declared.internal.class.Class.TheVariants.{Name, UserInfo, Segment, Query}
use Rattle.uriparse_text.specs.declared.internal.token.Case.{Case}
use Rattle.uriparse_text.specs.declared.internal.token.Case.TheVariants.{Kept, Lowered}
use Rattle.uriparse_text.specs.Bytes.{percent, is_hex, is_unreserved, is_sub_delim}
use Rattle.uriparse_text.specs.Classes.{is_plain}
use Rattle.uriparse_text.specs.Tokens.{tokens, spell, is_token, is_well_formed}
use Rattle.uriparse_text.specs.Faults.{allows, IsIn}
use Rattle.uriparse_text.specs.Canonical.{canonical_token, in_case, canonical_in}
use Rattle.uriparse_text.proofs.lemmas.tokens.TokenLemmas.{spell-tokens}
use Rattle.uriparse_text.proofs.lemmas.canonical.CanonicalLemmas.{by_escaped, upper_digit, tokens-canonical_in}
use Rattle.uriparse_text.proofs.lemmas.classes.FaultLemmas.{percent_not_plain}

-- ---- bytes

pub unreserved_plain : (class : Class) (b : ℕ) → is_unreserved b ≡ true → is_plain class b ≡ true
unfolding is_plain
unreserved_plain Name b h = rw h refl
unreserved_plain UserInfo b h = rw h refl
unreserved_plain Segment b h = rw h refl
unreserved_plain Query b h = rw h refl

pub plain_ascii : (class : Class) (b : ℕ) → is_plain class b ≡ true → b < 128
unfolding is_plain is_unreserved is_sub_delim
plain_ascii Name b h = grind (arith, nat_tests)
plain_ascii UserInfo b h = grind (arith, nat_tests)
plain_ascii Segment b h = grind (arith, nat_tests)
plain_ascii Query b h = grind (arith, nat_tests)

pub hex_ascii : (b : ℕ) → is_hex b ≡ true → b < 128
hex_ascii b h = grind (arith, nat_tests)

lowered_unreserved : (b : ℕ) → 65 ≤ b → b < 91 → is_unreserved (b + 32) ≡ true
unfolding is_unreserved
lowered_unreserved b low high = grind (arith, nat_tests)

-- a class has the letters of both cases
pub in_case_plain : (class : Class) (case : Case) (b : ℕ) → is_plain class b ≡ true → is_plain class (in_case case b) ≡ true
in_case_plain class Kept b h = h
in_case_plain class Lowered b h =
    cond_both (nat_lt b 65) b (cond (nat_lt b 91) (b + 32) b) (λ x. is_plain class x ≡ true) (λ _. h)
    (λ low. cond_both (nat_lt b 91) (b + 32) b (λ x. is_plain class x ≡ true)
    (λ high. unreserved_plain class (b + 32) (lowered_unreserved b (ltb-false b 65 low) (ltb-true b 91 high))) (λ _. h))

-- ---- tokens

pub is_token-allows : (class : Class) (t : Token) → allows class t ≡ true → is_token t ≡ true
is_token-allows class (Byte b) h = by_test (b == percent) refl
  where
    by_test : (v : Bool) → (b == percent) ≡ v → not v ≡ true
    by_test true e = absurd (false≢true (sym (percent_not_plain class) ∙ ap (is_plain class) (sym (eqb-true b percent e)) ∙ h))
    by_test false e = refl
is_token-allows class (Escape high low) h = h

-- what a class has, it has in canonical form
allows-canonical_token : (class : Class) (case : Case) (t : Token) → allows class t ≡ true → allows class (canonical_token case t) ≡ true
allows-canonical_token class case (Byte b) h = in_case_plain class case b h
allows-canonical_token class case (Escape high low) h =
    let both = and_parts _ _ h in
    by_escaped case high low (λ t. allows class t ≡ true)
    (λ e. in_case_plain class case _ (unreserved_plain class _ e))
    (λ e. and_from _ _ (upper_digit high both.0) (upper_digit low both.1))

token_ascii : (class : Class) (t : Token) → allows class t ≡ true → All (λ b. b < 128) (spell t)
token_ascii class (Byte b) h = All-cons (λ b. b < 128) b [] (plain_ascii class b h) (All-nil (λ b. b < 128))
token_ascii class (Escape high low) h =
    let both = and_parts _ _ h in
    All-cons (λ b. b < 128) percent (high ∷ low ∷ []) (omega arith)
    (All-cons (λ b. b < 128) high (low ∷ []) (hex_ascii high both.0) (All-cons (λ b. b < 128) low [] (hex_ascii low both.1) (All-nil (λ b. b < 128))))

-- ---- texts

-- a fact on each token
each : (p q : Token → Bool) → ((t : Token) → p t ≡ true → q t ≡ true) → (ts : List Token) → list_all p ts ≡ true → list_all q ts ≡ true
each p q f [] h = refl
each p q f (t ∷ ts) h = let both = and_parts _ _ h in and_from _ _ (f t both.0) (each p q f ts both.1)

pub all_tokens-allowed : (class : Class) (ts : List Token) → list_all (allows class) ts ≡ true → list_all is_token ts ≡ true
all_tokens-allowed class ts h = each (allows class) is_token (is_token-allows class) ts h

pub well_formed-in_class : (class : Class) (text : List ℕ) → IsIn class text → is_well_formed text ≡ true
well_formed-in_class class text h = all_tokens-allowed class (tokens text) h

all_canonical : (class : Class) (case : Case) (ts : List Token) → list_all (allows class) ts ≡ true →
    list_all (allows class) (map (canonical_token case) ts) ≡ true
all_canonical class case [] h = refl
all_canonical class case (t ∷ ts) h =
    let both = and_parts _ _ h in and_from _ _ (allows-canonical_token class case t both.0) (all_canonical class case ts both.1)

-- a canonical spelling is in the class of its text
pub IsIn-canonical_in : (class : Class) (case : Case) (text : List ℕ) → IsIn class text → IsIn class (canonical_in case text)
IsIn-canonical_in class case text h =
    ap (list_all (allows class)) (tokens-canonical_in case text (well_formed-in_class class text h)) ∙ all_canonical class case (tokens text) h

tokens_ascii : (class : Class) (ts : List Token) → list_all (allows class) ts ≡ true → All (λ b. b < 128) (flat_map spell ts)
tokens_ascii class [] h = All-nil (λ b. b < 128)
tokens_ascii class (t ∷ ts) h =
    let both = and_parts _ _ h in
    All-append (λ b. b < 128) (spell t) (flat_map spell ts) (token_ascii class t both.0) (tokens_ascii class ts both.1)

pub IsAscii-in_class : (class : Class) (text : List ℕ) → IsIn class text → IsAscii text
IsAscii-in_class class text h =
    IsAscii-from_all text (subst (All (λ b. b < 128)) (spell-tokens text) (tokens_ascii class (tokens text) h))

pub IsUtf8-in_class : (class : Class) (text : List ℕ) → IsIn class text → IsUtf8 text
IsUtf8-in_class class text h = IsUtf8-from_ascii text (IsAscii-in_class class text h)

token_bytes : (class : Class) (p : ℕ → Bool) → ((b : ℕ) → is_plain class b ≡ true → p b ≡ true) → p percent ≡ true → ((b : ℕ) → is_hex b ≡ true → p b ≡ true)
    → (t : Token) → allows class t ≡ true → list_all p (spell t) ≡ true
token_bytes class p plain sign digit (Byte b) h = and_from _ _ (plain b h) refl
token_bytes class p plain sign digit (Escape high low) h =
    let both = and_parts _ _ h in
    and_from _ _ sign (and_from _ _ (digit high both.0) (and_from _ _ (digit low both.1) refl))

-- what the bytes of a class, `%` and the hexadecimal digits pass, each byte of a text of the class passes
pub bytes-in_class : (class : Class) (p : ℕ → Bool) → ((b : ℕ) → is_plain class b ≡ true → p b ≡ true) → p percent ≡ true
    → ((b : ℕ) → is_hex b ≡ true → p b ≡ true) → (text : List ℕ) → IsIn class text → list_all p text ≡ true
bytes-in_class class p plain sign digit text h = ap (list_all p) (sym (spell-tokens text)) ∙ each_token (tokens text) h
  where
    each_token : (ts : List Token) → list_all (allows class) ts ≡ true → list_all p (flat_map spell ts) ≡ true
    each_token [] h = refl
    each_token (t ∷ ts) h =
        let both = and_parts _ _ h in
        list_all-append p (spell t) (flat_map spell ts) ∙ and_from _ _ (token_bytes class p plain sign digit t both.0) (each_token ts both.1)
