-- Names within names, by the labels that are skipped.
use Rattle.std.proofs.Common.{◌≡◌, ◌↔◌, ℕ, zero, suc, ◌+◌, ◌-◌, ◌<◌, ◌≤◌, Bool, true, false, not, List, [], ◌∷◌, ◌++◌, leb, length, length-append, drop, take, refl, sym, ap, ◌∙◌, arith, Option, Some, None}
use Rattle.std.specs.Prelude.{◌&&◌, ◌||◌, IsTrue, bytes_eq, is_some}
use Rattle.std.specs.List.{count_by, join_with_byte, list_any}
use Rattle.std.proofs.lemmas.Bool.{and_from, and_parts, false≢true, lt-leb}
use Rattle.std.proofs.lemmas.List.{take-append-drop}
use Rattle.std.proofs.lemmas.List.Splits.{length-slice_split}
use Rattle.std.proofs.lemmas.Slice.Eq.{bytes_eq-Decides}
use Rattle.std.proofs.Math.Seq.{drop-append_seam}
use Rattle.uriparse_text.specs.Address.{ipv4_reading}
use Rattle.uriparse_text.specs.Bytes.{dot}
use Rattle.uriparse_text.specs.Ends.{EndsWith}
use Rattle.uriparse_text.proofs.lemmas.addresses.Ipv4Lemmas.{IsOctets-SpellsIpv4, printed_alone}
use Rattle.uriparse_text.proofs.lemmas.addresses.LengthLemmas.{length-ipv4_text}
use Rattle.uriparse_text.proofs.lemmas.addresses.ReadingLemmas.{ipv4_reading-found}
use Rattle.uriparse_authority.specs.Within.{IsNameWithin, are_plain, has_escape, is_address, is_dot, is_empty, last_label, without_end_dot}
use Rattle.uriparse_authority.proofs.lemmas.hosts.EndDotLemmas.{escape-end}
use Rattle.uriparse_authority.proofs.lemmas.authorities.SameTextLemmas.{text_put}
use Rattle.uriparse_authority.proofs.lemmas.hosts.WithinLemmas.{joined-pieces, pieces, pieces-injective}

-- ---- addresses

pub address_short : (t : List ℕ) → 15 < length t → is_address t ≡ false
address_short t long = by_reading (ipv4_reading t) refl
  where
    by_reading : (o : Option (List ℕ)) → ipv4_reading t ≡ o → is_some o ≡ false
    by_reading None e = refl
    by_reading (Some a) e =
        let spells = ipv4_reading-found t a e in
        let octets = IsOctets-SpellsIpv4 t a spells in
        let short = length-ipv4_text a octets.fit in
        let same = ap length (printed_alone t a spells) in
        absurd (omega (arith, long, short, same))

-- the text that was put in a buffer of fifteen bytes
pub address_put : (buffer t : List ℕ) (n : ℕ) → EndsWith buffer n t → length buffer ≡ 15 → n ≤ 15 → take (15 - (15 - n)) (drop (15 - n) buffer) ≡ t
address_put buffer t n h e few =
    let size = h.size in
    let small : length t ≤ 15 = grind arith in
    text_put 15 buffer t n h e (omega (arith, small)) small

pub address_long : (buffer t : List ℕ) (n : ℕ) → EndsWith buffer n t → 15 < n → leb n 15 ≡ is_address t
address_long buffer t n h long =
    let size = h.size in
    let many : 15 < length t = grind arith in
    lt-leb n 15 long ∙ sym (address_short t many)

-- ---- labels

-- two lists of labels differ, label by label, or in their lengths
abbrev pub pointwise_differ : List (List ℕ) → List (List ℕ) → Bool
pointwise_differ [] [] = false
pointwise_differ [] (m ∷ ms) = true
pointwise_differ (l ∷ ls) [] = true
pointwise_differ (l ∷ ls) (m ∷ ms) = not (bytes_eq l m) || pointwise_differ ls ms

pub last-left : (ls : List (List ℕ)) (n : ℕ) → length ls ≡ n + 1 → drop n ls ≡ last_label ls ∷ []
last-left [] n e = absurd (omega (arith, e))
last-left (l ∷ []) zero e = refl
last-left (l ∷ []) (suc n) e = absurd (omega (arith, e))
last-left (l ∷ m ∷ ls) zero e = absurd (omega (arith, e))
last-left (l ∷ m ∷ ls) (suc n) e = last-left (m ∷ ls) n (omega (arith, e))

-- the rest of a name after all dots is its last label
pub last_by : (t rest : List ℕ) (n : ℕ) → n ≡ count_by is_dot t → pieces rest ≡ drop n (pieces t) → rest ≡ last_label (pieces t)
last_by t rest n count e =
    let one : pieces rest ≡ last_label (pieces t) ∷ [] =
    e ∙ last-left (pieces t) n (length-slice_split is_dot t ∙ ap (λ k. k + 1) (sym count)) in
    sym (joined-pieces rest) ∙ ap (join_with_byte dot) one

-- what is left when as many labels are skipped as there are more
pub ends_by : (t u rest : List ℕ) (n : ℕ) → n + count_by is_dot u ≡ count_by is_dot t → pieces rest ≡ drop n (pieces t)
    → (rest ≡ u) ↔ ((front : List (List ℕ)) × (pieces t ≡ front ++ pieces u))
ends_by t u rest n e left = (
  λ same. (take n (pieces t), sym (take-append-drop n (pieces t)) ∙ ap (λ ps. take n (pieces t) ++ ps) (sym left ∙ ap pieces same)),
  λ (front, cut).
      let one = length-slice_split is_dot t in
      let other = length-slice_split is_dot u in
      let both = ap length cut in
      let sum = length-append front (pieces u) in
      let size : n ≡ length front = omega (arith, e, one, other, both, sum) in
      pieces-injective rest u (left ∙ ap (λ ps. drop n ps) cut ∙ ap (λ k. drop k (front ++ pieces u)) size ∙ drop-append_seam front (pieces u)),
)

pub too_many : (t u : List ℕ) → count_by is_dot t < count_by is_dot u → (front : List (List ℕ)) → pieces t ≡ front ++ pieces u → ⊥
too_many t u less front e =
    let one = length-slice_split is_dot t in
    let other = length-slice_split is_dot u in
    let both = ap length e in
    let sum = length-append front (pieces u) in
    omega (arith, less, one, other, both, sum)

-- ---- names

not_true : (v : Bool) → not v ≡ true → v ≡ false
not_true true h = absurd (false≢true h)
not_true false h = refl

pub within_by : (name domain t u : List ℕ) (r s : Bool) → t ≡ without_end_dot name → u ≡ without_end_dot domain
    → IsTrue r ↔ ((front : List (List ℕ)) × (pieces t ≡ front ++ pieces u)) → s ≡ are_plain t u → IsTrue (r && s) ↔ IsNameWithin name domain
within_by name domain t u r s e f ends plain = (
  λ h.
      let both = and_parts r s h in
      let first = and_parts _ _ (sym plain ∙ both.1) in
      let second = and_parts _ _ first.1 in
      let third = and_parts _ _ second.1 in
      let fourth = and_parts _ _ third.1 in
      let left = ends.0 both.0 in
      record {
        full = ap (λ x. list_any is_empty (pieces x)) (sym e) ∙ not_true _ first.0;
        unescaped = sym (escape-end name) ∙ ap has_escape (sym e) ∙ not_true _ second.0;
        unescaped_domain = sym (escape-end domain) ∙ ap has_escape (sym f) ∙ not_true _ third.0;
        plain = ap is_address (sym e) ∙ not_true _ fourth.0;
        plain_domain = ap is_address (sym f) ∙ not_true _ fourth.1;
        ends = (left.0, ap pieces (sym e) ∙ left.1 ∙ ap (λ x. left.0 ++ pieces x) f);
      },
  λ is. and_from r s (ends.1 (is.ends.0, ap pieces e ∙ is.ends.1 ∙ ap (λ x. is.ends.0 ++ pieces x) (sym f)))
      (plain ∙ and_from _ _ (ap (λ x. not (list_any is_empty (pieces x))) e ∙ ap not is.full)
      (and_from _ _ (ap not (ap has_escape e ∙ escape-end name ∙ is.unescaped))
      (and_from _ _ (ap not (ap has_escape f ∙ escape-end domain ∙ is.unescaped_domain))
      (and_from _ _ (ap (λ x. not (is_address x)) e ∙ ap not is.plain) (ap (λ x. not (is_address x)) f ∙ ap not is.plain_domain))))),
)

-- labels that don't end with these ones
pub no_end : (ls ms : List (List ℕ)) → pointwise_differ (drop (length ls - length ms) ls) ms ≡ true → (front : List (List ℕ)) → ls ≡ front ++ ms → ⊥
no_end ls ms h front e =
    let sizes = ap length e in
    let sum = length-append front ms in
    let many : length ls - length ms ≡ length front = omega (arith, sizes, sum) in
    let rest : drop (length ls - length ms) ls ≡ ms = ap (λ n. drop n ls) many ∙ ap (drop (length front)) e ∙ drop-append_seam front ms in
    false≢true (sym (none_differ ms) ∙ ap (λ l. pointwise_differ l ms) (sym rest) ∙ h)
  where
    none_differ : (ms : List (List ℕ)) → pointwise_differ ms ms ≡ false
    none_differ [] = refl
    none_differ (m ∷ ms) = ap (λ v. not v || pointwise_differ ms ms) ((bytes_eq-Decides m m).1 refl) ∙ none_differ ms
