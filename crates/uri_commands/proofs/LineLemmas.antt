-- Lines, and the bytes that end them.
use Rattle.std.proofs.Common.{◌≡◌, ◌≢◌, ℕ, ◌+◌, ◌-◌, ◌<◌, ◌≤◌, Bool, false, true, List, [], ◌∷◌, ◌++◌, All, Some, None, IfSome, cond, length, take, drop, get_or, get_or-take, length-take-le, length-append, refl, sym, ap, subst, ◌∙◌, arith, append_assoc, eq-eqb, eqb-true, lt-ltb, take_at, take-take, take-append-drop}
use Rattle.std.specs.Io.{StartsWith}
use Rattle.std.specs.Prelude.{◌==◌, ◌&&◌, nat_lt, not, slice_index}
use Rattle.std.specs.declared.option.Option.{Option}
use Rattle.std.specs.List.{position_or_len}
use Rattle.std.specs.Io.BufRead.{take_through, drop_through, first_piece, strip_last, ends_with_byte, DropsConsumable, DropsThrough}
use Rattle.std.specs.Io.KnownBytes.{Consumes, IsAtEnd, Keeps, prepend_known}
use lib.Seq.{take-append_seam}
use Rattle.std.proofs.KnownBytes.{Keeps-refl}
use Rattle.std.proofs.BufReadLemmas.{take_through-append, drop_through-append}
use Rattle.std.proofs.lemmas.List.{take_more, get_or_push}
use Rattle.std.proofs.lemmas.List.Sums.{prefix_len-le-length, fails_before_first, passes_at_first}
use Rattle.std.proofs.lemmas.Bool.{and_from, false≢true}

-- no byte before the first that ends a line is one
none_before : (end : ℕ) (text : List ℕ) (offset : ℕ) → offset ≡ position_or_len (λ b. b == end) text → All (λ b. b ≢ end) (take offset text)
none_before end text offset is = λ k d h e.
    let within : offset ≤ length text = omega (arith, prefix_len-le-length (λ b. not (b == end)) text) in
    let short : k < offset = omega (arith, length-take-le offset text within) in
    let same : get_or text k d ≡ end = sym (get_or-take offset text k d short) ∙ e in
    let fails = fails_before_first (λ b. b == end) text k d (omega arith) in
    false≢true (sym fails ∙ eq-eqb _ _ same)

-- no byte of a copy of what precedes it is one
pub none_taken : (end : ℕ) (text old line : List ℕ) (offset : ℕ) → offset ≡ position_or_len (λ b. b == end) text → old ≡ []
    → line ≡ old ++ take offset text
    → All (λ b. b ≢ end) line
none_taken end text old line offset is empty taken =
    let whole : line ≡ take offset text = taken ∙ ap (λ t. t ++ take offset text) empty in
    subst (λ t. All (λ b. b ≢ end) t) (sym whole) (none_before end text offset is)

-- where no line ends, no byte ends one
pub none_held : (end : ℕ) (text : List ℕ) (offset : ℕ) → offset ≡ position_or_len (λ b. b == end) text → offset ≡ length text
    → All (λ b. b ≢ end) text
none_held end text offset is at_end = λ k d h e.
    let fails = fails_before_first (λ b. b == end) text k d (omega (arith, is, at_end, h)) in
    false≢true (sym fails ∙ eq-eqb _ _ e)

-- the bytes through the first one that ends a line
pub through_end : (end : ℕ) (text : List ℕ) (offset : ℕ) → offset ≡ position_or_len (λ b. b == end) text → offset < length text
    → take (offset + 1) text ≡ take offset text ++ end ∷ []
through_end end text offset is found =
    let hit = passes_at_first (λ b. b == end) text 0 (omega arith) in
    take_more text offset 0 found ∙ ap (λ b. take offset text ++ b ∷ []) (ap (λ k. get_or text k 0) is ∙ eqb-true _ _ hit)

-- what a reader shows begins with a line, and it loses the line with the byte that ends it
pub line_and_rest : (end : ℕ) (bytes held : List ℕ) (offset : ℕ) → StartsWith bytes held → offset ≡ position_or_len (λ b. b == end) held
    → offset < length held
    → (take offset held ++ end ∷ []) ++ drop (offset + 1) bytes ≡ bytes
line_and_rest end bytes held offset front is found =
    ap (λ l. l ++ drop (offset + 1) bytes)
    (sym (through_end end held offset is found) ∙ ap (take (offset + 1)) (sym front)
    ∙ take-take (offset + 1) (length held) bytes (omega arith))
    ∙ take-append-drop (offset + 1) bytes

-- a reader loses a line that it holds whole, with the byte that ends it
pub held_line : (end : ℕ) (v : Bool) (rest c : Option (List ℕ)) (held line : List ℕ) (offset : ℕ)
    → offset ≡ position_or_len (λ b. b == end) held → offset < length held
    → line ≡ take offset held → DropsConsumable (cond v None (prepend_known held rest)) c (Some (length held)) (offset + 1)
    → Consumes (cond v None (prepend_known held rest)) c (line ++ end ∷ [])
held_line end true rest c held line offset is found same drops = tt
held_line end false None c held line offset is found same drops = tt
held_line end false (Some y) c held line offset is found same drops =
    subst (λ o. Consumes (Some (held ++ y)) o (line ++ end ∷ [])) (sym (drops (omega (arith, found))))
    (sym (line_and_rest end (held ++ y) held offset (take-append_seam held y) is found)
    ∙ ap (λ l. (l ++ end ∷ []) ++ drop (offset + 1) (held ++ y)) (sym same))

-- a whole line without the byte that ends it
pub stripped : (end : ℕ) (line : List ℕ) → strip_last end (line ++ end ∷ []) ≡ line
stripped end line =
    let long : length (line ++ end ∷ []) ≡ length line + 1 = length-append line (end ∷ []) in
    let last : length (line ++ end ∷ []) - 1 ≡ length line = omega (arith, long) in
    let ends : ends_with_byte end (line ++ end ∷ []) ≡ true =
    and_from _ _ (lt-ltb _ _ (omega (arith, long))) (eq-eqb _ _ (get_or_push line end 0 _ (sym last))) in
    ap (λ b. cond b (take (length (line ++ end ∷ []) - 1) (line ++ end ∷ [])) (line ++ end ∷ [])) ends
    ∙ take_at line (end ∷ []) _ (sym last)

-- a line that was taken with the byte that ends it is the first
pub taken_line : (end : ℕ) (a c : Option (List ℕ)) (line : List ℕ) → Consumes a c (line ++ end ∷ []) → All (λ b. b ≢ end) line
    → IfSome a (λ bytes. line ≡ first_piece end bytes) × DropsThrough a c end
taken_line end None c line p lacks = (tt, tt)
taken_line end (Some x) None line p lacks = absurd p
taken_line end (Some x) (Some y) line p lacks =
    let whole : x ≡ line ++ end ∷ y = p ∙ append_assoc line (end ∷ []) y in
    let found : (end == end) ≡ true = eq-eqb end end refl in
    let ended : take_through end (end ∷ y) ≡ end ∷ [] = ap (λ b. cond b (end ∷ []) (end ∷ take_through end y)) found in
    let left : drop_through end (end ∷ y) ≡ y = ap (λ b. cond b y (drop_through end y)) found in
    let taken : take_through end x ≡ line ++ end ∷ [] =
    ap (take_through end) whole ∙ take_through-append end line (end ∷ y) lacks ∙ ap (λ t. line ++ t) ended in
    let dropped : drop_through end x ≡ y = ap (drop_through end) whole ∙ drop_through-append end line (end ∷ y) lacks ∙ left in
    (sym (ap (strip_last end) taken ∙ stripped end line), ap Some (sym dropped))

-- what is not written to stays as it is
pub keeps_same : (a c : Option (List ℕ)) → c ≡ a → Keeps a c
keeps_same a c same = subst (Keeps a) (sym same) (Keeps-refl a)

-- ---- the end

-- where the last byte of a list is
pub is_last : (end : ℕ) (x : ℕ) (t : List ℕ) (n : ℕ) → n ≡ length t → ends_with_byte end (x ∷ t) ≡ (slice_index (x ∷ t) n == end)
is_last end x t n e =
    let some : nat_lt 0 (length (x ∷ t)) ≡ true = lt-ltb _ _ (omega arith) in
    let at : length (x ∷ t) - 1 ≡ n = omega (arith, e) in
    ap (λ b. b && (slice_index (x ∷ t) (length (x ∷ t) - 1) == end)) some ∙ ap (λ k. slice_index (x ∷ t) k == end) at

-- a list of more than one byte ends as its rest does
rest_ends : (end : ℕ) (x : ℕ) (t : List ℕ) → ends_with_byte end (x ∷ t) ≡ false → ends_with_byte end t ≡ false
rest_ends end x [] h = refl
rest_ends end x (y ∷ t) h = is_last end y t (length t) refl ∙ sym (is_last end x (y ∷ t) (length (y ∷ t)) refl) ∙ h

-- where what is read through such a byte doesn't end with one, nothing is left
dropped_one : (end : ℕ) (x : ℕ) (xs : List ℕ) (b : Bool) → b ≡ (x == end)
    → ends_with_byte end (cond b (x ∷ []) (x ∷ take_through end xs)) ≡ false
    → (ends_with_byte end (take_through end xs) ≡ false → drop_through end xs ≡ []) → cond b xs (drop_through end xs) ≡ []
dropped_one end x xs true is h more = absurd (false≢true (sym h ∙ is_last end x [] 0 refl ∙ sym is))
dropped_one end x xs false is h more = more (rest_ends end x (take_through end xs) h)

dropped : (end : ℕ) (xs : List ℕ) → ends_with_byte end (take_through end xs) ≡ false → drop_through end xs ≡ []
dropped end [] ends = refl
dropped end (x ∷ xs) ends = dropped_one end x xs (x == end) refl ends (dropped end xs)

pub nothing_left : (end : ℕ) (o n : Option (List ℕ)) (before line : List ℕ) → before ≡ []
    → IfSome o (λ xs. line ≡ before ++ take_through end xs)
    → DropsThrough o n end → ends_with_byte end line ≡ false → IfSome o (λ _. IsAtEnd n)
nothing_left end None n before line none is drops ends = tt
nothing_left end (Some xs) n before line none is drops ends =
    subst IsAtEnd (sym drops) (dropped end xs (sym (ap (ends_with_byte end) (is ∙ ap (λ t. t ++ take_through end xs) none)) ∙ ends))
