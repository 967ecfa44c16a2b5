-- What a hasher is fed of bytes: blocks of sixty-four, and then what is left.
use Rattle.std.proofs.Common.{◌≡◌, ◌+◌, ◌*◌, ◌/◌, ◌<◌, ℕ, suc, true, List, [], ◌∷◌, ◌++◌, length, take, drop, set, fold, sym, ap, ◌∙◌, arith, append_assoc, append-nil}
use Rattle.std.specs.Prelude.{◌==◌}
use Rattle.std.specs.List.{flat_map, list_all}
use Rattle.std.specs.Simd.{first_chunks}
use Rattle.std.proofs.lemmas.Bool.{and_parts, eqb-true}
use Rattle.std.proofs.lemmas.Grind.{fold-append}
use Rattle.std.proofs.Math.Seq.{take-length, take-append_seam, drop-append_seam}
use Rattle.std.proofs.lemmas.List.{drop-drop, length-append, length-set, length-take, take_more_set}
use Rattle.uriparse_text.specs.declared.internal.token.Token.{Token}
use Rattle.uriparse_text.specs.declared.internal.token.Case.{Case}
use Rattle.uriparse_text.specs.Tokens.{tokens, spell}
use Rattle.uriparse_text.specs.Canonical.{canonical_token, canonical_in, fed_bytes}
use Rattle.uriparse_text.proofs.lemmas.canonical.CanonicalLemmas.{canonical_in-nil, canonical_in-cons}

-- what fills no block is fed whole
fed_last : (bytes : List ℕ) → length bytes < 64 → fed_bytes bytes ≡ bytes ∷ []
unfolding fed_bytes
fed_last bytes h =
    let none : length bytes / 64 ≡ 0 = omega (arith, h) in
    ap (λ n. first_chunks 64 n bytes ++ drop (n * 64) bytes ∷ []) none

-- the first block goes before what follows it
fed_first : (block bytes : List ℕ) → length block ≡ 64 → fed_bytes (block ++ bytes) ≡ block ∷ fed_bytes bytes
unfolding fed_bytes
fed_first block bytes h =
    let n : ℕ = length bytes / 64 in
    let more : length (block ++ bytes) / 64 ≡ suc n = omega (arith, h, length-append block bytes) in
    let front : take 64 (block ++ bytes) ≡ block = ap (λ k. take k (block ++ bytes)) (sym h) ∙ take-append_seam block bytes in
    let following : drop 64 (block ++ bytes) ≡ bytes = ap (λ k. drop k (block ++ bytes)) (sym h) ∙ drop-append_seam block bytes in
    let further : suc n * 64 ≡ 64 + n * 64 = omega arith in
    ap (λ k. first_chunks 64 k (block ++ bytes) ++ drop (k * 64) (block ++ bytes) ∷ []) more
    ∙ ap (λ b. (b ∷ first_chunks 64 n (drop 64 (block ++ bytes))) ++ drop (suc n * 64) (block ++ bytes) ∷ []) front
    ∙ ap (λ r. (block ∷ first_chunks 64 n r) ++ drop (suc n * 64) (block ++ bytes) ∷ []) following
    ∙ ap (λ r. (block ∷ first_chunks 64 n bytes) ++ r ∷ [])
    (ap (λ k. drop k (block ++ bytes)) further ∙ sym (drop-drop (n * 64) 64 (block ++ bytes)) ∙ ap (drop (n * 64)) following)

-- blocks, and then what is left
pub fed_blocks : (blocks : List (List ℕ)) (last : List ℕ) → list_all (λ b. length b == 64) blocks ≡ true → length last < 64
    → fed_bytes (flat_map (λ b. b) blocks ++ last) ≡ blocks ++ last ∷ []
fed_blocks [] last h k = fed_last last k
fed_blocks (b ∷ blocks) last h k =
    let both = and_parts _ _ h in
    ap fed_bytes (append_assoc b (flat_map (λ c. c) blocks) last)
    ∙ fed_first b (flat_map (λ c. c) blocks ++ last) (eqb-true (length b) 64 both.0)
    ∙ ap (λ w. b ∷ w) (fed_blocks blocks last both.1 k)

-- a byte more stands in a block
pub held : (block : List ℕ) (n b : ℕ) (later : List ℕ) → n < length block → take (n + 1) (set block n b) ++ later ≡ take n block ++ b ∷ later
held block n b later h = ap (λ w. w ++ later) (take_more_set block n b h) ∙ append_assoc (take n block) (b ∷ []) later

module _ {S : Type 0} (write : S → List ℕ → S) where
  -- blocks are fed, and then what is left
  pub feeds_bytes : (s : S) (bytes : List ℕ) (blocks : List (List ℕ)) (last : List ℕ) → blocks ≡ first_chunks 64 (length bytes / 64) bytes
      → last ≡ drop (length bytes / 64 * 64) bytes → write (fold write s blocks) last ≡ fold write s (fed_bytes bytes)
  unfolding fed_bytes
  feeds_bytes s bytes blocks last e f =
      sym (fold-append write s blocks (last ∷ []))
      ∙ ap (λ l. fold write s (l ++ last ∷ [])) e
      ∙ ap (λ l. fold write s (first_chunks 64 (length bytes / 64) bytes ++ l ∷ [])) f

  -- a byte fills the block
  pub feeds_full : (s : S) (block : List ℕ) (n b : ℕ) (later : List ℕ) → n + 1 ≡ 64 → length block ≡ 64
      → fold write (write s (set block n b)) (fed_bytes later) ≡ fold write s (fed_bytes (take n block ++ b ∷ later))
  feeds_full s block n b later h k =
      let whole : length (set block n b) ≡ 64 = length-set block n b ∙ k in
      let all : take (n + 1) (set block n b) ≡ set block n b = ap (λ m. take m (set block n b)) (h ∙ sym whole) ∙ take-length (set block n b) in
      sym (ap (fold write s) (fed_first (set block n b) later whole))
      ∙ ap (λ w. fold write s (fed_bytes w)) (ap (λ w. w ++ later) (sym all) ∙ held block n b later (omega (arith, h, k)))

  -- a token more
  pub feeds_token : (s : S) (waiting : List ℕ) (case : Case) (rest after : List ℕ) (t : Token) → tokens rest ≡ t ∷ tokens after
      → fold write s (fed_bytes (waiting ++ (spell (canonical_token case t) ++ canonical_in case after))) ≡ fold write s (fed_bytes (waiting ++ canonical_in case rest))
  feeds_token s waiting case rest after t e = sym (ap (λ u. fold write s (fed_bytes (waiting ++ u))) (canonical_in-cons case rest after t e))

  -- no token is left, and fewer bytes than a block has
  pub feeds_waiting : (s : S) (block : List ℕ) (n : ℕ) (case : Case) (rest : List ℕ) → n < 64 → rest ≡ []
      → write s (take n block) ≡ fold write s (fed_bytes (take n block ++ canonical_in case rest))
  feeds_waiting s block n case rest few e =
      let none : canonical_in case rest ≡ [] = ap (canonical_in case) e ∙ canonical_in-nil case in
      sym (ap (λ u. fold write s (fed_bytes u)) (ap (λ u. take n block ++ u) none ∙ append-nil (take n block))
      ∙ ap (fold write s) (fed_last (take n block) (omega (arith, few, length-take n block))))
