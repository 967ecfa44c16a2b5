-- Queries and their pairs.
use Rattle.std.proofs.Common.{◌≡◌, ℕ, Bor, ◌<◌, Bool, true, false, not, ◌&&◌, List, [], ◌∷◌, ◌++◌, length, map, flat_map, Option, Some, None, refl, sym, ap, subst, ◌∙◌, append-nil, arith}
use Rattle.std.specs.Prelude.{◌==◌, IfSome, codes, unwrap_or}
use Rattle.std.specs.Option.{option_map}
use Rattle.std.specs.Int.{is_in_range}
use Rattle.std.specs.List.{list_all, slice_split, onto_first, join_with_byte}
use Rattle.std.proofs.lemmas.Bool.{agree_below_at, and_from, and_parts, cond_both, false≢true, not-true, eqb-true}
use Rattle.std.proofs.lemmas.List.Folds.{list_all-append}
use Rattle.std.proofs.lemmas.List.Splits.{slice_split-cons_yes, slice_split-cons_no, join_with_byte-slice_split}
use Rattle.uriparse_text.specs.declared.internal.token.Token.{Token}
use Rattle.uriparse_text.specs.declared.internal.token.Token.TheVariants.{Byte}
use Rattle.uriparse_text.specs.declared.internal.class.Class.{Class}
use Rattle.uriparse_text.specs.declared.internal.class.Class.TheVariants.{Query}
use Rattle.uriparse_text.specs.Bytes.{percent, ampersand, equals_sign, is_hex, is_among, is_unreserved, is_sub_delim}
use Rattle.uriparse_text.specs.Classes.{is_plain}
use Rattle.uriparse_text.specs.Tokens.{tokens, spell}
use Rattle.uriparse_text.specs.Faults.{allows, IsIn}
use Rattle.uriparse_text.specs.Cuts.{lacks, following, before, after}
use Rattle.uriparse_text.specs.Coding.{value_of, decoded, are_bytes, token_without, encoded_without, escape_of}
use Rattle.uriparse_text.specs.Query.{IsQuery}
use Rattle.uriparse_text.specs.Pairs.{Pair, is_ampersand, pair_of, pairs, pairs_left, piece_of, joined_pairs, decoded_pair, encoded_in_pair, encoded_pair, are_pair_bytes, given}
use Rattle.uriparse_text.proofs.lemmas.tokens.TokenLemmas.{tokens-mark, tokens_of_concatenation}
use Rattle.uriparse_text.proofs.lemmas.tokens.CodingLemmas.{small_byte}
use Rattle.uriparse_text.proofs.lemmas.tokens.EscapingLemmas.{high_digit, low_digit, high_is_hex, low_is_hex}
use Rattle.uriparse_text.proofs.lemmas.classes.ClassLemmas.{all_tokens-allowed}
use Rattle.uriparse_text.proofs.lemmas.readings.CutLemmas.{before_after, before_of, after_of, lacks-append, lacks-following}

-- ---- the parts of a text at a delimiter are in the class of the text

module _ (class : Class) (mark : ℕ) (digit : is_hex mark ≡ false) (sign : not (mark == percent) ≡ true) where
  pub in_both : (t u : List ℕ) → IsIn class (t ++ mark ∷ u) → IsIn class t × IsIn class u
  in_both t u h =
      let all = sym (ap (list_all (allows class)) (tokens-mark mark digit sign t u) ∙ list_all-append (allows class) (tokens t) (Byte mark ∷ tokens u)) ∙ h in
      let both = and_parts (list_all (allows class) (tokens t)) (list_all (allows class) (Byte mark ∷ tokens u)) all in
      (both.0, (and_parts (is_plain class mark) (list_all (allows class) (tokens u)) both.1).1)

  pub in_parts : (t : List ℕ) → IsIn class t → IsIn class (before mark t) × IfSome (after mark t) (IsIn class)
  in_parts t h = by_after (after mark t) (before_after mark t)
    where
      by_after : (o : Option (List ℕ)) → before mark t ++ following mark o ≡ t → IsIn class (before mark t) × IfSome o (IsIn class)
      by_after None e = (subst (IsIn class) (sym (sym (append-nil (before mark t)) ∙ e)) h, tt)
      by_after (Some u) e = in_both (before mark t) u (subst (IsIn class) (sym e) h)

pub query_pieces : (q : List ℕ) → IsQuery q → IsQuery (before ampersand q) × IfSome (after ampersand q) IsQuery
query_pieces q h = in_parts Query ampersand refl refl q h

pub pair_texts : (q : List ℕ) → IsQuery q → IsQuery (before equals_sign q) × IfSome (after equals_sign q) IsQuery
pair_texts q h = in_parts Query equals_sign refl refl q h

pub some_query : (o : Option (List ℕ)) (t : List ℕ) → IfSome o IsQuery → o ≡ Some t → IsQuery t
some_query None t h e = cc
some_query (Some u) t h e = let same : u ≡ t = cc in subst IsQuery same h

-- ---- the first pair

-- what is left of the pieces after the first one
abbrev pub pieces_left : (mark : ℕ) → Option (List ℕ) → List (List ℕ)
pieces_left mark None = []
pieces_left mark (Some t) = slice_split (λ b. b == mark) t

pub first_piece : (mark : ℕ) (t : List ℕ) → slice_split (λ b. b == mark) t ≡ before mark t ∷ pieces_left mark (after mark t)
first_piece mark [] = refl
first_piece mark (b ∷ t) = by_test (b == mark) refl (first_piece mark t)
  where
    by_test : (v : Bool) → (b == mark) ≡ v → slice_split (λ b. b == mark) t ≡ before mark t ∷ pieces_left mark (after mark t)
        → slice_split (λ b. b == mark) (b ∷ t) ≡ before mark (b ∷ t) ∷ pieces_left mark (after mark (b ∷ t))
    by_test true e h = slice_split-cons_yes (λ b. b == mark) b t e ∙ rw e refl
    by_test false e h = slice_split-cons_no (λ b. b == mark) b t e ∙ ap (onto_first b) h ∙ rw e refl

pub first_pair : (q : List ℕ) → pairs q ≡ pair_of (before ampersand q) ∷ pairs_left (after ampersand q)
first_pair q = ap (map pair_of) (first_piece ampersand q) ∙ ap (λ ps. pair_of (before ampersand q) ∷ ps) (by_after (after ampersand q))
  where
    by_after : (o : Option (List ℕ)) → map pair_of (pieces_left ampersand o) ≡ pairs_left o
    by_after None = refl
    by_after (Some t) = refl

-- ---- the pieces of a query, joined, are the query

pub piece_back : (s : List ℕ) → piece_of (pair_of s) ≡ s
piece_back s = before_after equals_sign s

pieces_back : (ss : List (List ℕ)) → map piece_of (map pair_of ss) ≡ ss
pieces_back [] = refl
pieces_back (s ∷ ss) = rw (piece_back s, pieces_back ss) refl

pub joined-pairs : (q : List ℕ) → joined_pairs (pairs q) ≡ q
joined-pairs q = ap (join_with_byte ampersand) (pieces_back (slice_split is_ampersand q)) ∙ join_with_byte-slice_split ampersand q

-- ---- joined pieces are split into themselves

split_none : (mark : ℕ) (s : List ℕ) → lacks mark s ≡ true → slice_split (λ b. b == mark) s ≡ s ∷ []
split_none mark [] h = refl
split_none mark (b ∷ s) h =
    let both = and_parts _ _ h in
    slice_split-cons_no (λ b. b == mark) b s (not-true (b == mark) both.0) ∙ ap (onto_first b) (split_none mark s both.1)

split_front : (mark : ℕ) → (mark == mark) ≡ true → (s t : List ℕ) → lacks mark s ≡ true
    → slice_split (λ b. b == mark) (s ++ mark ∷ t) ≡ s ∷ slice_split (λ b. b == mark) t
split_front mark same [] t h = slice_split-cons_yes (λ b. b == mark) mark t same
split_front mark same (b ∷ s) t h =
    let both = and_parts _ _ h in
    slice_split-cons_no (λ b. b == mark) b (s ++ mark ∷ t) (not-true (b == mark) both.0) ∙ ap (onto_first b) (split_front mark same s t both.1)

pub split_joined : (mark : ℕ) → (mark == mark) ≡ true → (s : List ℕ) (ss : List (List ℕ)) → lacks mark s ≡ true → list_all (lacks mark) ss ≡ true
    → slice_split (λ b. b == mark) (join_with_byte mark (s ∷ ss)) ≡ s ∷ ss
split_joined mark same s [] h k = split_none mark s h
split_joined mark same s (r ∷ ss) h k =
    let both = and_parts _ _ k in
    split_front mark same s (join_with_byte mark (r ∷ ss)) h ∙ ap (λ l. s ∷ l) (split_joined mark same r ss both.0 both.1)

pub joined_following : (mark : ℕ) (s : List ℕ) (ss : List (List ℕ)) → join_with_byte mark (s ∷ ss) ≡ s ++ flat_map (λ r. mark ∷ r) ss
joined_following mark s [] = sym (append-nil s)
joined_following mark s (r ∷ ss) = ap (λ x. s ++ mark ∷ x) (joined_following mark r ss)

-- ---- the bytes of a name or a value

-- what holds of both outcomes holds of a byte's token
pub by_kept : (class : Class) (without : List ℕ) (b : ℕ) (P : Token → Type 0) → ((is_plain class b && not (is_among without b)) ≡ true → P (Byte b))
    → P (escape_of b) → P (token_without class without b)
by_kept class without b P f g = cond_both (is_plain class b && not (is_among without b)) (Byte b) (escape_of b) P f (λ _. g)

module _ (class : Class) (without : List ℕ) where
  allows-token_without : (b : ℕ) → allows class (token_without class without b) ≡ true
  allows-token_without b =
      by_kept class without b (λ t. allows class t ≡ true) (λ h. (and_parts (is_plain class b) (not (is_among without b)) h).0)
      (and_from _ _ (high_is_hex b) (low_is_hex b))

  all_allowed : (bytes : List ℕ) → list_all (allows class) (map (token_without class without) bytes) ≡ true
  all_allowed [] = refl
  all_allowed (b ∷ bytes) = and_from _ _ (allows-token_without b) (all_allowed bytes)

  pub tokens-encoded_without : (bytes : List ℕ) → tokens (encoded_without class without bytes) ≡ map (token_without class without) bytes
  tokens-encoded_without bytes =
      tokens_of_concatenation (map (token_without class without) bytes)
      (all_tokens-allowed class (map (token_without class without) bytes) (all_allowed bytes))

  pub IsIn-encoded_without : (bytes : List ℕ) → IsIn class (encoded_without class without bytes)
  IsIn-encoded_without bytes = ap (list_all (allows class)) (tokens-encoded_without bytes) ∙ all_allowed bytes

  pub value_without : (b : ℕ) → b < 256 → value_of (token_without class without b) ≡ b
  value_without b small =
      by_kept class without b (λ t. value_of t ≡ b) (λ h. refl)
      (eqb-true _ _ (agree_below_at (λ b. value_of (escape_of b) == b) (λ b. true) 256 b refl small))

  values_without : (bytes : List ℕ) → are_bytes bytes ≡ true → map value_of (map (token_without class without) bytes) ≡ bytes
  values_without [] h = refl
  values_without (b ∷ bytes) h =
      let both = and_parts (is_in_range 0 255 b) (are_bytes bytes) h in
      rw (value_without b (small_byte b both.0), values_without bytes both.1) refl

  pub decoded-encoded_without : (bytes : List ℕ) → are_bytes bytes ≡ true → decoded (encoded_without class without bytes) ≡ bytes
  unfolding decoded
  decoded-encoded_without bytes h = ap (map value_of) (tokens-encoded_without bytes) ∙ values_without bytes h

  -- a byte that doesn't stand for itself is none of the text's
  module _ (mark : ℕ) (excluded : is_among without mark ≡ true) (sign : not (percent == mark) ≡ true) (digit : is_hex mark ≡ false) where
    other : (b : ℕ) → (b == mark) ≡ true → is_hex b ≡ false
    other b e = ap is_hex (eqb-true b mark e) ∙ digit

    no_digit : (b : ℕ) → is_hex b ≡ true → not (b == mark) ≡ true
    no_digit b h = by_test (b == mark) refl
      where
        by_test : (v : Bool) → (b == mark) ≡ v → not v ≡ true
        by_test true e = absurd (false≢true (sym (other b e) ∙ h))
        by_test false e = refl

    pub kept_lacks : (b : ℕ) → (is_plain class b && not (is_among without b)) ≡ true → not (b == mark) ≡ true
    kept_lacks b h = by_test (b == mark) refl
      where
        by_test : (v : Bool) → (b == mark) ≡ v → not v ≡ true
        by_test true e =
            let none = (and_parts (is_plain class b) (not (is_among without b)) h).1 in
            absurd (false≢true (ap not (sym excluded) ∙ ap (λ x. not (is_among without x)) (sym (eqb-true b mark e)) ∙ none))
        by_test false e = refl

    token_lacks : (b : ℕ) → lacks mark (spell (token_without class without b)) ≡ true
    token_lacks b =
        by_kept class without b (λ t. lacks mark (spell t) ≡ true) (λ h. and_from _ _ (kept_lacks b h) refl)
        (and_from _ _ sign (and_from _ _ (no_digit (high_digit b) (high_is_hex b)) (and_from _ _ (no_digit (low_digit b) (low_is_hex b)) refl)))

    pub encoded_without-lacks : (bytes : List ℕ) → lacks mark (encoded_without class without bytes) ≡ true
    encoded_without-lacks [] = refl
    encoded_without-lacks (b ∷ bytes) =
        lacks-append mark (spell (token_without class without b)) (encoded_without class without bytes) (token_lacks b) (encoded_without-lacks bytes)

-- ---- written pairs are read back

pub name_lacks : (mark : ℕ) → is_among (codes "&=+*") mark ≡ true → not (percent == mark) ≡ true → is_hex mark ≡ false → (bytes : List ℕ)
    → lacks mark (encoded_in_pair bytes) ≡ true
name_lacks mark excluded sign digit bytes = encoded_without-lacks Query (codes "&=+*") mark excluded sign digit bytes

value_lacks : (o : Option (List ℕ)) → IfSome (option_map encoded_in_pair o) (λ t. lacks ampersand t ≡ true)
value_lacks None = tt
value_lacks (Some t) = name_lacks ampersand refl refl refl t

pub piece_lacks : (p : Pair) → lacks ampersand (piece_of (encoded_pair p)) ≡ true
piece_lacks p =
    lacks-append ampersand (encoded_in_pair p.0) (following equals_sign (option_map encoded_in_pair p.1)) (name_lacks ampersand refl refl refl p.0)
    (lacks-following ampersand equals_sign (option_map encoded_in_pair p.1) refl (value_lacks p.1))

pieces_lack : (ps : List Pair) → list_all (lacks ampersand) (map piece_of (map encoded_pair ps)) ≡ true
pieces_lack [] = refl
pieces_lack (p ∷ ps) = and_from _ _ (piece_lacks p) (pieces_lack ps)

pub pair_back : (p : Pair) → pair_of (piece_of (encoded_pair p)) ≡ encoded_pair p
pair_back p =
    let lacking = name_lacks equals_sign refl refl refl p.0 in
    rw (
      before_of equals_sign (encoded_in_pair p.0) (option_map encoded_in_pair p.1) refl lacking,
      after_of equals_sign (encoded_in_pair p.0) (option_map encoded_in_pair p.1) refl lacking,
    ) refl

pairs_back : (ps : List Pair) → map pair_of (map piece_of (map encoded_pair ps)) ≡ map encoded_pair ps
pairs_back [] = refl
pairs_back (p ∷ ps) = rw (pair_back p, pairs_back ps) refl

pub pairs-joined : (ps : List Pair) → 0 < length ps → pairs (joined_pairs (map encoded_pair ps)) ≡ map encoded_pair ps
pairs-joined [] h = absurd (omega (arith, h))
pairs-joined (p ∷ ps) h =
    ap (map pair_of) (split_joined ampersand refl (piece_of (encoded_pair p)) (map piece_of (map encoded_pair ps)) (piece_lacks p) (pieces_lack ps))
    ∙ pairs_back (p ∷ ps)

decoded_value : (o : Option (List ℕ)) → are_bytes (unwrap_or o []) ≡ true → option_map decoded (option_map encoded_in_pair o) ≡ o
decoded_value None h = refl
decoded_value (Some t) h = ap Some (decoded-encoded_without Query (codes "&=+*") t h)

pub pair_decoded : (p : Pair) → are_pair_bytes p ≡ true → decoded_pair (encoded_pair p) ≡ p
pair_decoded p h =
    let bytes = and_parts (are_bytes p.0) (are_bytes (unwrap_or p.1 [])) h in
    rw (decoded-encoded_without Query (codes "&=+*") p.0 bytes.0, decoded_value p.1 bytes.1) refl

all_decoded : (ps : List Pair) → list_all are_pair_bytes ps ≡ true → map decoded_pair (map encoded_pair ps) ≡ ps
all_decoded [] h = refl
all_decoded (p ∷ ps) h = let both = and_parts _ _ h in rw (pair_decoded p both.0, all_decoded ps both.1) refl

pub written_back : (ps : List Pair) → 0 < length ps → list_all are_pair_bytes ps ≡ true → map decoded_pair (pairs (joined_pairs (map encoded_pair ps))) ≡ ps
written_back ps some bytes = ap (map decoded_pair) (pairs-joined ps some) ∙ all_decoded ps bytes

-- ---- the query that is written is one

pub in_join : (t u : List ℕ) (mark : ℕ) → is_hex mark ≡ false → not (mark == percent) ≡ true → is_plain Query mark ≡ true → IsIn Query t → IsIn Query u
    → IsIn Query (t ++ mark ∷ u)
in_join t u mark digit sign plain h k =
    ap (list_all (allows Query)) (tokens-mark mark digit sign t u) ∙ list_all-append (allows Query) (tokens t) (Byte mark ∷ tokens u)
    ∙ and_from _ _ h (and_from _ _ plain k)

pub ampersand_plain : is_plain Query ampersand ≡ true
unfolding is_plain is_unreserved is_sub_delim
ampersand_plain = refl

equals_sign_plain : is_plain Query equals_sign ≡ true
unfolding is_plain is_unreserved is_sub_delim
equals_sign_plain = refl

pub piece_query : (p : Pair) → IsQuery (piece_of (encoded_pair p))
piece_query p = by_value p.1
  where
    name : IsQuery (encoded_in_pair p.0)
    name = IsIn-encoded_without Query (codes "&=+*") p.0

    by_value : (o : Option (List ℕ)) → IsQuery (encoded_in_pair p.0 ++ following equals_sign (option_map encoded_in_pair o))
    by_value None = subst IsQuery (sym (append-nil (encoded_in_pair p.0))) name
    by_value (Some t) =
        in_join (encoded_in_pair p.0) (encoded_in_pair t) equals_sign refl refl equals_sign_plain name (IsIn-encoded_without Query (codes "&=+*") t)

pub joined_query : (ps : List Pair) → IsQuery (joined_pairs (map encoded_pair ps))
joined_query [] = IsIn-encoded_without Query (codes "&=+*") []
joined_query (p ∷ []) = piece_query p
joined_query (p ∷ r ∷ ps) =
    in_join (piece_of (encoded_pair p)) (joined_pairs (map encoded_pair (r ∷ ps))) ampersand refl refl ampersand_plain (piece_query p) (joined_query (r ∷ ps))

-- ---- writing pairs one after another

abbrev pub Slices : Type 0
Slices = Bor (List ℕ) × Option (Bor (List ℕ))

-- what is written for the pairs after the first one
abbrev pub written_after : List Slices → List ℕ
written_after ps = flat_map (λ p. ampersand ∷ piece_of (encoded_pair (given p))) ps

written_after_is : (ps : List Slices) → flat_map (λ r. ampersand ∷ r) (map piece_of (map encoded_pair (map given ps))) ≡ written_after ps
written_after_is [] = refl
written_after_is (p ∷ ps) = ap (λ l. (ampersand ∷ piece_of (encoded_pair (given p))) ++ l) (written_after_is ps)

pub written_joined : (p : Slices) (ps : List Slices)
    → joined_pairs (map encoded_pair (map given (p ∷ ps))) ≡ piece_of (encoded_pair (given p)) ++ written_after ps
written_joined p ps =
    joined_following ampersand (piece_of (encoded_pair (given p))) (map piece_of (map encoded_pair (map given ps)))
    ∙ ap (λ l. piece_of (encoded_pair (given p)) ++ l) (written_after_is ps)
