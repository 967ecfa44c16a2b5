-- The leftmost fault of a path, token by token.
use Rattle.std.proofs.Common.{◌≡◌, ◌↔◌, ℕ, ◌+◌, ◌<◌, ◌≤◌, Bool, true, false, ◌&&◌, cond, nat_lt, List, [], ◌∷◌, length, take, take_all, drop, Option, Some}
use Rattle.std.proofs.Common.{None, refl, sym, ap, ◌∙◌, arith, add-one, inl, inr, ⊎_elim}
use Rattle.std.specs.Prelude.{◌==◌, ◌⊎◌}
use Rattle.std.specs.Option.{option_or, option_map}
use Rattle.std.proofs.Math.Seq.{take-nil}
use Rattle.std.specs.List.{list_all, slice_split}
use Rattle.std.proofs.lemmas.Bool.{false≢true, and_parts, and_from, eqb-true, ltb-false, le-ltb}
use Rattle.std.proofs.lemmas.Bool.Decides.{nat_tests}
use Rattle.uriparse_text.specs.declared.internal.class.Class.TheVariants.{Segment}
use Rattle.uriparse_text.specs.Bytes.{percent, slash, is_unreserved, is_sub_delim, is_hex}
use Rattle.uriparse_text.specs.Classes.{is_plain}
use Rattle.uriparse_text.specs.Tokens.{is_escape}
use Rattle.uriparse_text.specs.Faults as text
use Rattle.uriparse_text.proofs.lemmas.classes.FaultLemmas.{fault-nil, fault-plain, fault-escape, fault-here, no_fault}
use Rattle.uriparse_text.specs.declared.segment.error.PathError.{PathError}
use Rattle.uriparse_text.specs.declared.segment.error.PathError.TheVariants.{ExceededMaximumLength}
use Rattle.uriparse_text.specs.Segment as segment
use Rattle.uriparse_path.specs.Path.{is_slash}
use Rattle.uriparse_path.specs.Faults.{fault_within, first_fault, length_fault}
use Rattle.uriparse_text.proofs.lemmas.classes.FaultByByteLemmas.{hex_plain}
use Rattle.uriparse_text.proofs.lemmas.tokens.TokenLemmas.{escape_at}
use Rattle.uriparse_path.proofs.lemmas.text.SplitLemmas.{IsCut, cut, pieces-byte, pieces-slash}

-- ---- piece by piece

or_assoc : (a b c : Option PathError) → option_or (option_or a b) c ≡ option_or a (option_or b c)
or_assoc None b c = refl
or_assoc (Some e) b c = refl

length_fault-more : (n m : ℕ) → length_fault (n + 1) (m + 1) ≡ length_fault n m
length_fault-more n m = ap (λ v. cond v (Some ExceededMaximumLength) None) (more n m)
  where
    more : (n m : ℕ) → nat_lt (n + 1) (m + 1) ≡ nat_lt n m
    more n m = grind (arith, nat_tests)

pub within-cons : (n : ℕ) (q : List ℕ) (qs : List (List ℕ)) → fault_within (n + 1) (q ∷ qs) ≡ option_or (segment.fault q) (fault_within n qs)
within-cons n q qs =
    let long : length (q ∷ qs) ≡ length qs + 1 = omega arith in
    rw (long, length_fault-more n (length qs), add-one) (or_assoc (segment.fault q) (first_fault (take n qs)) (length_fault n (length qs)))

pub within-nil : (n : ℕ) → fault_within n [] ≡ None
within-nil n = rw (take-nil n) (ap (λ v. cond v (Some ExceededMaximumLength) None) (never n))
  where
    never : (n : ℕ) → nat_lt n 0 ≡ false
    never n = grind (arith, nat_tests)

-- no further piece may begin
pub within-zero : (q : List ℕ) (qs : List (List ℕ)) → fault_within 0 (q ∷ qs) ≡ Some ExceededMaximumLength
within-zero q qs = ap (λ v. cond v (Some ExceededMaximumLength) None) (above (length (q ∷ qs)) (omega arith))
  where
    above : (n : ℕ) → 0 < n → nat_lt 0 n ≡ true
    above n h = grind (arith, nat_tests)

empty_segment : segment.fault [] ≡ None
empty_segment = ap (option_map segment.error_of) (fault-nil Segment)

-- ---- token by token

-- both texts are split into as many pieces, with the same fault if n more pieces may begin
pub record SameFrom (n : ℕ) (t u : List ℕ) : Type 0 where
  pub pieces : length (slice_split is_slash t) ≡ length (slice_split is_slash u)
  pub fault : fault_within (n + 1) (slice_split is_slash t) ≡ fault_within (n + 1) (slice_split is_slash u)

-- if the first pieces have the same fault, and the others are the same
same_first : (n : ℕ) (t u q r : List ℕ) (qs : List (List ℕ)) → slice_split is_slash t ≡ q ∷ qs → slice_split is_slash u ≡ r ∷ qs
    → segment.fault q ≡ segment.fault r → SameFrom n t u
same_first n t u q r qs e f same = record {
  pieces = rw (e, f) refl;
  fault = rw (e, f, within-cons n q qs, within-cons n r qs, same) refl;
}

slash_not_plain : is_plain Segment slash ≡ false
unfolding is_plain is_unreserved is_sub_delim
slash_not_plain = refl

other_than_slash : (p : ℕ → Bool) (b : ℕ) → p slash ≡ false → p b ≡ true → is_slash b ≡ false
other_than_slash p b h k = by_test (is_slash b) refl
  where
    by_test : (v : Bool) → is_slash b ≡ v → v ≡ false
    by_test true e = absurd (false≢true (sym h ∙ ap p (sym (eqb-true b slash e)) ∙ k))
    by_test false e = refl

pub plain_not_slash : (b : ℕ) → is_plain Segment b ≡ true → is_slash b ≡ false
plain_not_slash b plain = other_than_slash (is_plain Segment) b slash_not_plain plain

pub hex_not_slash : (b : ℕ) → is_hex b ≡ true → is_slash b ≡ false
hex_not_slash b h = other_than_slash is_hex b refl h

pub after_plain : (n b : ℕ) (after : List ℕ) → is_plain Segment b ≡ true → SameFrom n (b ∷ after) after
after_plain n b after plain =
    let is = cut after in
    same_first n (b ∷ after) after (b ∷ is.first) is.first is.others (pieces-byte b after (plain_not_slash b plain) is) is.pieces
    (ap (option_map segment.error_of) (fault-plain Segment b is.first plain))

pub after_escape : (n b : ℕ) (after : List ℕ) → is_escape b after ≡ true → SameFrom n (b ∷ after) (drop 2 after)
after_escape n b [] h = cc
after_escape n b (c ∷ []) h = cc
after_escape n b (high ∷ low ∷ rest) h =
    let is = cut rest in
    let outer = and_parts (b == percent && is_hex high) (is_hex low) h in
    let inner = and_parts (b == percent) (is_hex high) outer.0 in
    let sign : is_slash b ≡ false = ap is_slash (eqb-true b percent inner.0) in
    let low_is : IsCut (low ∷ rest) = record { first = low ∷ is.first; others = is.others; pieces = pieces-byte low rest (hex_not_slash low outer.1) is } in
    let high_is : IsCut (high ∷ low ∷ rest) = record {
      first = high ∷ low ∷ is.first;
      others = is.others;
      pieces = pieces-byte high (low ∷ rest) (hex_not_slash high inner.1) low_is;
    } in
    same_first n (b ∷ high ∷ low ∷ rest) rest (b ∷ high ∷ low ∷ is.first) is.first is.others (pieces-byte b (high ∷ low ∷ rest) sign high_is) is.pieces
    (ap (option_map segment.error_of) (fault-escape Segment b (high ∷ low ∷ is.first) h))

-- so does its `%` alone, since its digits are bytes of the class,
pub after_sign : (n b : ℕ) (after : List ℕ) → is_escape b after ≡ true → SameFrom n (b ∷ after) after
after_sign n b [] h = cc
after_sign n b (c ∷ []) h = cc
after_sign n b (high ∷ low ∷ rest) h =
    let whole = after_escape n b (high ∷ low ∷ rest) h in
    let both = and_parts (is_hex high) (is_hex low) (escape_at b (high ∷ low ∷ rest) h).digits in
    let first = after_plain n high (low ∷ rest) (hex_plain Segment high both.0) in
    let second = after_plain n low rest (hex_plain Segment low both.1) in
    record { pieces = whole.pieces ∙ sym second.pieces ∙ sym first.pieces; fault = whole.fault ∙ sym second.fault ∙ sym first.fault }

-- a slash starts one segment more,
pub after_slash : (n b : ℕ) (after : List ℕ) → is_slash b ≡ true
    → fault_within (n + 1 + 1) (slice_split is_slash (b ∷ after)) ≡ fault_within (n + 1) (slice_split is_slash after)
after_slash n b after e =
    rw (pieces-slash b after e, within-cons (n + 1) [] (slice_split is_slash after), empty_segment) refl

-- or one too many
pub at_limit : (b : ℕ) (after : List ℕ) → is_slash b ≡ true → fault_within (0 + 1) (slice_split is_slash (b ∷ after)) ≡ Some ExceededMaximumLength
at_limit b after e =
    let is = cut after in
    rw (pieces-slash b after e, within-cons 0 [] (slice_split is_slash after), empty_segment, is.pieces) (within-zero is.first is.others)

first-nil : (is : IsCut []) → is.first ≡ []
first-nil is = let e = is.pieces in cc

first-cons : (c : ℕ) (t : List ℕ) (is : IsCut (c ∷ t)) → (is.first ≡ []) ⊎ (is.first ≡ c ∷ (cut t).first)
first-cons c t is = at_byte (is_slash c) refl
  where
    at_byte : (v : Bool) → is_slash c ≡ v → (is.first ≡ []) ⊎ (is.first ≡ c ∷ (cut t).first)
    at_byte true e = inl (let f = pieces-slash c t e in let g = is.pieces in cc)
    at_byte false e = inr (let f = pieces-byte c t e (cut t) in let g = is.pieces in cc)

-- an escape within the first piece is one of the text
escape_in_piece : (b : ℕ) (t : List ℕ) (is : IsCut t) → is_escape b is.first ≡ true → is_escape b t ≡ true
escape_in_piece b [] is h = absurd (false≢true (sym (ap (is_escape b) (first-nil is)) ∙ h))
escape_in_piece b (c ∷ []) is h = ⊎_elim
    (λ e. absurd (false≢true (sym (ap (is_escape b) e) ∙ h)))
    (λ e. absurd (false≢true (sym (ap (is_escape b) (e ∙ ap (λ x. c ∷ x) (first-nil (cut [])))) ∙ h)))
    (first-cons c [] is)
escape_in_piece b (c ∷ d ∷ t) is h = ⊎_elim
    (λ e. absurd (false≢true (sym (ap (is_escape b) e) ∙ h)))
    (λ e. ⊎_elim
    (λ f. absurd (false≢true (sym (ap (is_escape b) (e ∙ ap (λ x. c ∷ x) f)) ∙ h)))
    (λ f. sym (ap (is_escape b) (e ∙ ap (λ x. c ∷ x) f)) ∙ h)
    (first-cons d t (cut (d ∷ t))))
    (first-cons c (d ∷ t) is)

-- no token of a segment begins here
pub faulty_byte : (n b : ℕ) (after : List ℕ) → is_plain Segment b ≡ false → is_slash b ≡ false → is_escape b after ≡ false
    → fault_within (n + 1) (slice_split is_slash (b ∷ after)) ≡ Some (segment.error_of b)
faulty_byte n b after plain other never =
    let is = cut after in
    let here : text.fault Segment (b ∷ is.first) ≡ Some b = fault-here Segment b is.first plain (never_in_piece is (is_escape b is.first) refl) in
    rw (pieces-byte b after other is, within-cons n (b ∷ is.first) is.others, here) refl
  where
    never_in_piece : (is : IsCut after) (v : Bool) → is_escape b is.first ≡ v → is_escape b is.first ≡ false
    never_in_piece is true e = absurd (false≢true (sym never ∙ escape_in_piece b after is e))
    never_in_piece is false e = e

pub no_more : (n : ℕ) → fault_within (n + 1) (slice_split is_slash []) ≡ None
no_more n = rw (within-cons n [] [], empty_segment) (within-nil n)

-- ---- no fault

or_none : (a b : Option PathError) → option_or a b ≡ None → (a ≡ None) × (b ≡ None)
or_none None b h = (refl, h)
or_none (Some e) b h = cc

segment_none : (s : List ℕ) → segment.fault s ≡ None → segment.is_segment s ≡ true
segment_none s h = (no_fault Segment s).0 (unmapped (text.fault Segment s) h)
  where
    unmapped : (o : Option ℕ) → option_map segment.error_of o ≡ None → o ≡ None
    unmapped None h = refl
    unmapped (Some b) h = cc

none_segment : (s : List ℕ) → segment.is_segment s ≡ true → segment.fault s ≡ None
none_segment s h = ap (option_map segment.error_of) ((no_fault Segment s).1 h)

pub all_segments : (ps : List (List ℕ)) → first_fault ps ≡ None → list_all segment.is_segment ps ≡ true
all_segments [] h = refl
all_segments (s ∷ ss) h =
    let both = or_none (segment.fault s) (first_fault ss) h in
    and_from _ _ (segment_none s both.0) (all_segments ss both.1)

pub no_segment_fault : (ps : List (List ℕ)) → list_all segment.is_segment ps ≡ true → first_fault ps ≡ None
no_segment_fault [] h = refl
no_segment_fault (s ∷ ss) h =
    let both = and_parts _ _ h in rw (none_segment s both.0) (no_segment_fault ss both.1)

short_enough : (n m : ℕ) → length_fault n m ≡ None → m ≤ n
short_enough n m h = by_test (nat_lt n m) refl h
  where
    by_test : (v : Bool) → nat_lt n m ≡ v → cond v (Some ExceededMaximumLength) None ≡ None → m ≤ n
    by_test true e k = cc
    by_test false e k = ltb-false n m e

-- pieces have no fault exactly if they are segments, at most as many as allowed
pub within_none : (n : ℕ) (ps : List (List ℕ)) → (fault_within n ps ≡ None) ↔ ((length ps ≤ n) × (list_all segment.is_segment ps ≡ true))
within_none n ps = (
  λ h. let both = or_none (first_fault (take n ps)) (length_fault n (length ps)) h in
      let short = short_enough n (length ps) both.1 in
      (short, all_segments ps (ap first_fault (sym (take_all n ps short)) ∙ both.0)),
  λ (short, each). rw (take_all n ps short, no_segment_fault ps each) (ap (λ v. cond v (Some ExceededMaximumLength) None) (le-ltb n (length ps) short)),
)
