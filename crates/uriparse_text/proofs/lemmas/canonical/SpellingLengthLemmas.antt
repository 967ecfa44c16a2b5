-- The length of a canonical spelling.
use Rattle.std.proofs.Common.{◌≡◌, ℕ, ◌+◌, ◌-◌, ◌≤◌, Bool, true, false, cond, List, [], ◌∷◌, ◌++◌, length, map, subst, refl, sym, ap, ◌∙◌, arith, length-append}
use Rattle.std.specs.List.{flat_map}
use Rattle.uriparse_text.specs.declared.internal.token.Token.{Token}
use Rattle.uriparse_text.specs.declared.internal.token.Token.TheVariants.{Byte, Escape}
use Rattle.uriparse_text.specs.declared.internal.token.Case.{Case}
use Rattle.uriparse_text.specs.Tokens.{tokens, spell}
use Rattle.std.specs.Char.{to_ascii_uppercase}
use Rattle.uriparse_text.specs.declared.internal.token.Case.TheVariants.{Kept}
use Rattle.uriparse_text.specs.Bytes.{is_unreserved}
use Rattle.uriparse_text.specs.Canonical.{canonical_token, canonical_in, escaped_byte, in_case}
use Rattle.uriparse_text.proofs.lemmas.canonical.CanonicalLemmas.{by_escaped, canonical_in-cons, canonical_in-nil}
use Rattle.uriparse_text.proofs.lemmas.tokens.TokenLemmas.{spell-tokens}

-- a token's canonical form is no longer
pub no_longer : (case : Case) (t : Token) → length (spell (canonical_token case t)) ≤ length (spell t)
no_longer case (Byte b) = omega arith
no_longer case (Escape high low) = by_escaped case high low (λ u. length (spell u) ≤ 3) (λ e. omega arith) (λ e. omega arith)

-- one token more is counted
pub length_more : (case : Case) (rest after : List ℕ) (t : Token) → tokens rest ≡ t ∷ tokens after
    → length (canonical_in case rest) ≡ length (spell (canonical_token case t)) + length (canonical_in case after)
length_more case rest after t e =
    ap length (canonical_in-cons case rest after t e) ∙ length-append (spell (canonical_token case t)) (canonical_in case after)

-- a canonical spelling is no longer than the text
pub spelled_no_longer : (case : Case) (text : List ℕ) → length (canonical_in case text) ≤ length text
unfolding canonical_in
spelled_no_longer case text = subst (λ n. length (canonical_in case text) ≤ n) (ap length (spell-tokens text)) (along (tokens text))
  where
    along : (ts : List Token) → length (flat_map spell (map (canonical_token case) ts)) ≤ length (flat_map spell ts)
    along [] = omega arith
    along (t ∷ ts) =
        let one = no_longer case t in
        let others = along ts in
        let left = length-append (spell (canonical_token case t)) (flat_map spell (map (canonical_token case) ts)) in
        let right = length-append (spell t) (flat_map spell ts) in
        omega arith

-- the case of letters doesn't change the length
pub length_in_case : (case : Case) (text : List ℕ) → length (canonical_in Kept text) ≡ length (canonical_in case text)
unfolding canonical_in
length_in_case case text = along (tokens text)
  where
    by_value : (v : Bool) (b high low : ℕ) → length (spell (cond v (Byte (in_case Kept b)) (Escape high low))) ≡
        length (spell (cond v (Byte (in_case case b)) (Escape high low)))
    by_value true b high low = refl
    by_value false b high low = refl

    one : (t : Token) → length (spell (canonical_token Kept t)) ≡ length (spell (canonical_token case t))
    one (Byte b) = refl
    one (Escape high low) =
        by_value (is_unreserved (escaped_byte high low)) (escaped_byte high low) (to_ascii_uppercase high) (to_ascii_uppercase low)

    along : (ts : List Token) → length (flat_map spell (map (canonical_token Kept) ts)) ≡ length (flat_map spell (map (canonical_token case) ts))
    along [] = refl
    along (t ∷ ts) =
        let same = one t in
        let others = along ts in
        let left = length-append (spell (canonical_token Kept t)) (flat_map spell (map (canonical_token Kept) ts)) in
        let right = length-append (spell (canonical_token case t)) (flat_map spell (map (canonical_token case) ts)) in
        omega arith

length_cut : (rest after : List ℕ) (t : Token) → tokens rest ≡ t ∷ tokens after → length rest ≡ length (spell t) + length after
length_cut rest after t e =
    ap length (sym (spell-tokens rest)) ∙ ap (λ ts. length (flat_map spell ts)) e ∙ length-append (spell t) (flat_map spell (tokens after))
    ∙ ap (λ u. length (spell t) + length u) (spell-tokens after)

-- `whole` is the length of a text's canonical spelling, and `len` what is known of it before the rest is looked at
abbrev pub IsCounted : ℕ → ℕ → List ℕ → Type 0
IsCounted whole len rest = len + length (canonical_in Kept rest) ≡ whole + length rest

-- a token more
pub counted_token : (whole len less : ℕ) (rest after : List ℕ) (t : Token) → IsCounted whole len rest → tokens rest ≡ t ∷ tokens after
    → less + length (spell (canonical_token Kept t)) ≡ length (spell t) → (less ≤ len) × IsCounted whole (len - less) after
counted_token whole len less rest after t is e saved =
    let more = length_more Kept rest after t e in
    let cut = length_cut rest after t e in
    let within = spelled_no_longer Kept after in
    (omega arith, omega arith)

-- a run more
pub counted_run : (whole len : ℕ) (rest run later : List ℕ) → IsCounted whole len rest → rest ≡ run ++ later
    → canonical_in Kept rest ≡ run ++ canonical_in Kept later → IsCounted whole len later
counted_run whole len rest run later is e f =
    let cut = ap length e ∙ length-append run later in
    let kept = ap length f ∙ length-append run (canonical_in Kept later) in
    omega arith

pub counted_all : (case : Case) (len : ℕ) (text rest : List ℕ) → IsCounted (length (canonical_in Kept text)) len rest → rest ≡ []
    → len ≡ length (canonical_in case text)
counted_all case len text rest is none =
    let left : length (canonical_in Kept rest) ≡ 0 = ap (λ u. length (canonical_in Kept u)) none ∙ ap length (canonical_in-nil Kept) in
    let end : length rest ≡ 0 = ap length none in
    let same = length_in_case case text in
    omega arith
