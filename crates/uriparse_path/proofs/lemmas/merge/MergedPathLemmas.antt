-- A base's path merged with a reference's.
use Rattle.std.proofs.Common.{◌≡◌, ℕ, ◌+◌, ◌<◌, ◌≤◌, Bool, true, false, cond, List, [], ◌∷◌, ◌++◌, length, nat_le, Result, Ok, Err, refl, sym, ap}
use Rattle.std.proofs.Common.{◌∙◌, subst, arith, length-append}
use Rattle.std.specs.List.{list_all}
use Rattle.std.proofs.lemmas.Bool.{false≢true, and_parts, and_from, le-leb, lt-leb}
use Rattle.std.proofs.lemmas.List.Folds.{list_all-append}
use Rattle.uriparse_text.specs.declared.segment.error.PathError.{PathError}
use Rattle.uriparse_text.specs.declared.segment.error.PathError.TheVariants.{ExceededMaximumLength}
use Rattle.uriparse_path.specs.declared.path.TheConstants.{MAX_SEGMENTS}
use Rattle.uriparse_text.specs.Segment.{is_segment}
use Rattle.uriparse_path.specs.Path.{PathParts, IsListed, starts_with_empty_segment, max_segments}
use Rattle.uriparse_path.specs.Dots.{all_but_last}
use Rattle.uriparse_path.specs.Merge.{merged, merging}
use Rattle.uriparse_path.proofs.lemmas.reading.ReadingLemmas.{limit_is}

-- ---- the merged segments

pub some_before : (front l : List (List ℕ)) → 0 < length l → 0 < length (front ++ l)
some_before front l h = omega (arith, length-append front l)

pub each_cut : (l : List (List ℕ)) → list_all is_segment l ≡ true → list_all is_segment (all_but_last l) ≡ true
each_cut [] h = refl
each_cut (s ∷ []) h = refl
each_cut (s ∷ r ∷ l) h = let both = and_parts (is_segment s) (list_all is_segment (r ∷ l)) h in and_from _ _ both.0 (each_cut (r ∷ l) both.1)

pub merged_each : (p q : PathParts) → IsListed p.segments → IsListed q.segments → list_all is_segment (merged p q).segments ≡ true
merged_each p q is js = list_all-append is_segment (all_but_last p.segments) q.segments ∙ and_from _ _ (each_cut p.segments is.each) js.each

pub listed_merged : (p q : PathParts) → IsListed p.segments → IsListed q.segments → length (merged p q).segments ≤ max_segments → IsListed (merged p q).segments
listed_merged p q is js short = record { some = some_before (all_but_last p.segments) q.segments js.some; short = short; each = merged_each p q is js }

pub merged_hides : (l m : List (List ℕ)) → starts_with_empty_segment l ≡ false → starts_with_empty_segment m ≡ false → starts_with_empty_segment (all_but_last l ++ m) ≡ false
merged_hides [] m h k = k
merged_hides (s ∷ []) m h k = k
merged_hides ([] ∷ r ∷ l) m h k = absurd (false≢true (sym h))
merged_hides ((b ∷ s) ∷ r ∷ l) m h k = refl

-- ---- what merging returns, by the code's two lists

merging_if : (p q : PathParts) (v : Bool) → nat_le (length (merged p q).segments) max_segments ≡ v
    → merging p q ≡ cond v (Ok (merged p q)) (Err ExceededMaximumLength)
merging_if p q v h = ap (λ v. cond {A = Result PathParts PathError} v (Ok (merged p q)) (Err ExceededMaximumLength)) h

module _ (p q : PathParts) (whole front back : List (List ℕ)) (base : whole ≡ p.segments) (cut : front ≡ all_but_last whole) (following : back ≡ q.segments) where
  segments_are : front ++ back ≡ (merged p q).segments
  segments_are = ap (λ l. l ++ back) (cut ∙ ap all_but_last base) ∙ ap (λ l. all_but_last p.segments ++ l) following

  length_is : length front + length back ≡ length (merged p q).segments
  length_is = sym (length-append front back) ∙ ap length segments_are

  pub too_long : MAX_SEGMENTS < length front + length back → merging p q ≡ Err ExceededMaximumLength
  too_long h = merging_if p q false
      (lt-leb (length (merged p q).segments) max_segments
      (subst (λ n. max_segments < n) length_is (subst (λ n. n < length front + length back) limit_is h)))

  short : length front + length back ≤ MAX_SEGMENTS → length (merged p q).segments ≤ max_segments
  short h = subst (λ n. n ≤ max_segments) length_is (subst (λ n. length front + length back ≤ n) limit_is h)

  pub short_enough : length front + length back ≤ MAX_SEGMENTS → merging p q ≡ Ok (merged p q)
  short_enough h = merging_if p q true (le-leb (length (merged p q).segments) max_segments (short h))

  pub listed_list : IsListed p.segments → IsListed q.segments → length front + length back ≤ MAX_SEGMENTS → (new : List (List ℕ)) → new ≡ front ++ back
      → IsListed new
  listed_list is js h new e = subst IsListed (sym (e ∙ segments_are)) (listed_merged p q is js (short h))
