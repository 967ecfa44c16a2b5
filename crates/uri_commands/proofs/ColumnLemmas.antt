-- Lines of fields, and their tabs.
use Rattle.std.proofs.Common.{◌≡◌, ◌==◌, ◌&&◌, ℕ, ◌+◌, ◌-◌, ◌<◌, ◌≤◌, Bool, true, false, not, cond, List, [], ◌∷◌, ◌++◌, Option, Some, None, length, take, drop, length-append, refl, sym, ap, ◌∙◌, arith, append-nil, append_assoc, inl, inr}
use Rattle.std.proofs.Math.Seq.{take-append_seam, drop-append_seam}
use Rattle.std.proofs.lemmas.Bool.{and_parts, eqb-true, not-true}
use Rattle.std.proofs.lemmas.List.Sums.{sum_by-append, sum_by-cons}
use Rattle.uriparse_text.specs.Cuts.{lacks, before, after, following, from_first}
use Rattle.uriparse_text.proofs.lemmas.readings.CutLemmas.{before_after, before-lacks, cut-whole, lacks-append, lacks-left, lacks-right}
use Rattle.uri_commands.specs.Columns.{AreFields, IsCut, IsRead, IsRest, IsRow, done, short, row, is_tab, tab, tabs}
use Rattle.uri_commands.specs.declared.lines.Outcome.{Outcome}

pub tabs-append : (t u : List ℕ) → tabs (t ++ u) ≡ tabs t + tabs u
tabs-append t u = sum_by-append (λ b. cond (is_tab b) 1 0) t u

-- a text without a tab
pub tabs-none : (t : List ℕ) → lacks tab t ≡ true → tabs t ≡ 0
tabs-none [] h = refl
tabs-none (b ∷ t) h =
    let parts = and_parts (not (is_tab b)) (lacks tab t) h in
    let both : tabs (b ∷ t) ≡ cond (is_tab b) 1 0 + tabs t = sum_by-cons (λ c. cond (is_tab c) 1 0) b t in
    let here : ◌≡◌ {A = ℕ} (cond (is_tab b) 1 0) 0 = ap (λ v. cond v 1 0) (not-true (is_tab b) parts.0) in
    omega (arith, both, here, tabs-none t parts.1)

-- no fields
pub fields-none : AreFields 0 []
fields-none = record { count = refl; ended = inl refl }

-- a text up to its first tab, if it has one
pub cut-field : (t u : List ℕ) → after tab t ≡ Some u → t ≡ (before tab t ++ tab ∷ []) ++ u
cut-field t u e = sym (before_after tab t) ∙ ap (λ o. before tab t ++ following tab o) e ∙ sym (append_assoc (before tab t) (tab ∷ []) u)

cut-last : (t : List ℕ) → after tab t ≡ None → t ≡ before tab t
cut-last t e = sym (before_after tab t) ∙ ap (λ o. before tab t ++ following tab o) e ∙ append-nil (before tab t)

pub tabs-before : (t : List ℕ) → tabs (before tab t) ≡ 0
tabs-before t = tabs-none (before tab t) (before-lacks tab t)

-- a text with no tab after which anything follows has none
pub tabs-last : (t : List ℕ) → after tab t ≡ None → tabs t ≡ 0
tabs-last t e = ap tabs (cut-last t e) ∙ tabs-before t

-- one field more
pub fields-more : (n : ℕ) (front rest later : List ℕ) → AreFields n front → after tab rest ≡ Some later
    → AreFields (n + 1) (front ++ (before tab rest ++ tab ∷ []))
fields-more n front rest later are e = record {
  count =
      tabs-append front (before tab rest ++ tab ∷ [])
      ∙ omega (arith, are.count, tabs-append (before tab rest) (tab ∷ []), tabs-before rest, one);
  ended = inr (front ++ before tab rest, sym (append_assoc front (before tab rest) (tab ∷ [])));
}
  where
    one : tabs (tab ∷ []) ≡ 1
    one = refl

pub whole-more : (line front rest later : List ℕ) → line ≡ front ++ rest → after tab rest ≡ Some later
    → line ≡ (front ++ (before tab rest ++ tab ∷ [])) ++ later
whole-more line front rest later e f =
    e ∙ ap (λ u. front ++ u) (cut-field rest later f) ∙ sym (append_assoc front (before tab rest ++ tab ∷ []) later)

-- ---- the fields of a text, and what follows them

pub rest-of : (t : List ℕ) → IsRest (from_first is_tab t)
rest-of [] = tt
rest-of (b ∷ t) = by_tab (is_tab b) refl (rest-of t)
  where
    by_tab : (v : Bool) → is_tab b ≡ v → IsRest (from_first is_tab t) → IsRest (cond v (b ∷ t) (from_first is_tab t))
    by_tab true e r = eqb-true b tab e
    by_tab false e r = r

-- ---- a line that is cut

-- a line has too few fields, if what follows the first ones has none
pub too_few : (line front rest : List ℕ) (n count : ℕ) → line ≡ front ++ rest → AreFields n front → after tab rest ≡ None → n < count
    → tabs line < count
too_few line front rest n count e are none h =
    omega (arith, ap tabs e ∙ tabs-append front rest, are.count, tabs-last rest none, h)

-- what is left of a line behind its front
pub following_front : (line front rest : List ℕ) → line ≡ front ++ rest
    → (take (length line - length rest) line ≡ front) × (drop (length line - length rest) line ≡ rest)
following_front line front rest e =
    let long : length line - length rest ≡ length front = omega (arith, ap length e ∙ length-append front rest) in (
      ap (λ n. take n line) long ∙ ap (take (length front)) e ∙ take-append_seam front rest,
      ap (λ n. drop n line) long ∙ ap (drop (length front)) e ∙ drop-append_seam front rest,
    )

-- the text and what follows it
cut_last : (rest begun last : List ℕ) → rest ≡ begun ++ last → rest ≡ (begun ++ before tab last) ++ from_first is_tab last
cut_last rest begun last e =
    e ∙ ap (λ u. begun ++ u) (sym (cut-whole is_tab last)) ∙ sym (append_assoc begun (before tab last) (from_first is_tab last))

pub text_len : (rest begun last : List ℕ) → rest ≡ begun ++ last → length begun + length (before tab last) ≤ length rest
text_len rest begun last e =
    omega (
      arith,
      ap length (cut_last rest begun last e),
      length-append (begun ++ before tab last) (from_first is_tab last),
      length-append begun (before tab last),
    )

pub text_parts : (rest begun last : List ℕ) → rest ≡ begun ++ last
    → (take (length (begun ++ before tab last)) rest ≡ begun ++ before tab last)
    × (drop (length (begun ++ before tab last)) rest ≡ from_first is_tab last)
text_parts rest begun last e = (
  ap (take (length (begun ++ before tab last))) (cut_last rest begun last e)
      ∙ take-append_seam (begun ++ before tab last) (from_first is_tab last),
  ap (drop (length (begun ++ before tab last))) (cut_last rest begun last e)
      ∙ drop-append_seam (begun ++ before tab last) (from_first is_tab last),
)

-- a text of so many fields, of which the last one ends before a tab
pub cut_text : (first width : ℕ) (line front rest begun last : List ℕ) → 0 < width → line ≡ front ++ rest → AreFields first front
    → rest ≡ begun ++ last → AreFields (width - 1) begun → IsCut first width line front (begun ++ before tab last) (from_first is_tab last)
cut_text first width line front rest begun last some whole ahead cut are = record {
  whole = whole ∙ ap (λ u. front ++ u) (cut_last rest begun last cut);
  ahead = ahead;
  fields = omega (arith, tabs-append begun (before tab last), are.count, tabs-before last, some);
  following = rest-of last;
}

-- a line with too few fields behind the first ones
pub too_few_after : (first width : ℕ) (line front rest : List ℕ) → 0 < width → line ≡ front ++ rest → AreFields first front
    → tabs rest < width - 1 → tabs line + 1 < first + width
too_few_after first width line front rest some whole ahead few =
    omega (arith, ap tabs whole ∙ tabs-append front rest, ahead.count, few, some)

-- ---- a line that goes out

parts_lack : (end : ℕ) (first : Option ℕ) (width : ℕ) (line front text back : List ℕ) → IsRead first width line front text back
    → lacks end line ≡ true
    → (lacks end front ≡ true) × (lacks end text ≡ true) × (lacks end back ≡ true)
parts_lack end None width line front text back read h =
    (ap (lacks end) read.0, ap (lacks end) read.1 ∙ h, ap (lacks end) read.2)
parts_lack end (Some first) width line front text back read h =
    let whole : lacks end (front ++ (text ++ back)) ≡ true = sym (ap (lacks end) read.whole) ∙ h in
    let following = lacks-right end front (text ++ back) whole in
    (lacks-left end front (text ++ back) whole, lacks-left end text back following, lacks-right end text back following)

-- a result after a tab
after_tab : (end : ℕ) (result : List ℕ) → (tab == end) ≡ false → lacks end result ≡ true → lacks end (tab ∷ result) ≡ true
after_tab end result other none = ap (λ b. not b && lacks end result) other ∙ none

row_parts : (end : ℕ) (appends : Bool) (front text back result : List ℕ) → (tab == end) ≡ false → lacks end front ≡ true
    → lacks end text ≡ true
    → lacks end back ≡ true → lacks end result ≡ true → lacks end (row appends front text back result) ≡ true
row_parts end true front text back result other f t b r =
    lacks-append end front (text ++ (back ++ tab ∷ result)) f
    (lacks-append end text (back ++ tab ∷ result) t (lacks-append end back (tab ∷ result) b (after_tab end result other r)))
row_parts end false front text back result other f t b r = lacks-append end front (result ++ back) f (lacks-append end result back r b)

-- what goes out for a line without the byte that ends lines has none either
pub row_lacks : {Gives : List ℕ → List ℕ → Outcome → Type 0} (end : ℕ) (first : Option ℕ) (width : ℕ) (appends : Bool) (line out : List ℕ)
    (outcome : Outcome) → (tab == end) ≡ false
    → IsRow Gives end first width appends line out outcome → lacks end line ≡ true → lacks end out ≡ true
row_lacks end first width appends line out outcome other (done front text back result read gives none is) h =
    let parts = parts_lack end first width line front text back read h in
    ap (lacks end) is ∙ row_parts end appends front text back result other parts.0 parts.1 parts.2 none
row_lacks end first width appends line out outcome other (short few is rejected) h = ap (lacks end) is ∙ h
