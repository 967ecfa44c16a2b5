-- A segment appended to the path of a reference, or taken from its end.
use Rattle.std.proofs.Common.{◌≡◌, ℕ, ◌<◌, Bool, true, false, List, [], ◌∷◌, length, Option, Some, refl, sym, ap, ◌∙◌, arith, cond, inl, inr}
use Rattle.std.specs.Prelude.{is_some, nat_lt, Ok, Err}
use Rattle.std.specs.List.{list_all}
use Rattle.std.proofs.lemmas.Bool.{false≢true, and_from}
use Rattle.uriparse_text.specs.Readings.{◌>>=◌, of_piece, unless_fault, SettlesUnless}
use Rattle.uriparse_path.specs.Path.{PathParts, IsListed, starts_with_empty_segment, max_segments, respelled, text}
use Rattle.uriparse_text.specs.Segment.{is_segment}
use Rattle.uriparse_path.specs.Dots.{all_but_last}
use Rattle.uriparse_path.specs.Relative.{filled, is_first, has_colon}
use Rattle.uriparse_path.specs.Edits.{with_last, pushed, pushing, popped}
use Rattle.uriparse_text.specs.declared.segment.error.PathError.TheVariants.{ExceededMaximumLength}
use Rattle.uriparse_path.proofs.lemmas.list.EditLemmas.{counted_popped}
use Rattle.uriparse_path.proofs.lemmas.dots.ReplayInPlaceLemmas.{push_cut}
use Rattle.uriparse_text.proofs.lemmas.canonical.DotLemmas.{empty_segment}
use Rattle.uriparse_path.proofs.lemmas.merge.MergedPathLemmas.{each_cut}
use Rattle.uriparse_reference.specs.declared.uri_reference.edit.Edit.TheVariants as edits
use Rattle.uriparse_reference.specs.declared.uri_reference.error.URIReferenceError.{URIReferenceError}
use Rattle.uriparse_reference.specs.declared.uri_reference.error.URIReferenceError.TheVariants as errors
use Rattle.uriparse_reference.specs.Reference.{Parts, Valid, path_refusal}
use Rattle.uriparse_reference.specs.Edits.{edited, segment_pushed}
use Rattle.uriparse_reference.specs.Edits as Edits
use Rattle.uriparse_reference.proofs.lemmas.reading.SpellingLemmas.{HasPlace}
use Rattle.uriparse_reference.proofs.lemmas.edits.EditLemmas.{if_there, own_parts}
use Rattle.uriparse_reference.proofs.lemmas.edits.PathRuleLemmas.{Fits, make, fits_of, colon_of, placed, formed_shown, plain_formed}

-- taking away what was appended leaves the path
pub popped_pushed : (p : PathParts) (s : List ℕ) → 0 < length p.segments → popped (pushed p s) ≡ p
popped_pushed p s k = ap (make p.absolute) (by_list p.segments s k)
  where
    by_list : (ss : List (List ℕ)) (s : List ℕ) → 0 < length ss → filled (all_but_last (with_last ss s)) ≡ ss
    by_list [] s k = absurd (omega (arith, k))
    by_list ([] ∷ []) [] k = refl
    by_list ([] ∷ []) (b ∷ s) k = refl
    by_list ([] ∷ t ∷ ss) s k = ap filled (push_cut ([] ∷ t ∷ ss) s)
    by_list ((c ∷ t) ∷ ss) s k = ap filled (push_cut ((c ∷ t) ∷ ss) s)

each_filled : (l : List (List ℕ)) → list_all is_segment l ≡ true → list_all is_segment (filled l) ≡ true
each_filled [] h = and_from _ _ empty_segment refl
each_filled (s ∷ l) h = h

listed_popped : (l : List (List ℕ)) → IsListed l → IsListed (filled (all_but_last l))
listed_popped l is =
    let counted = counted_popped l (record { some = is.some; short = is.short }) in
    record { some = counted.some; short = counted.short; each = each_filled (all_but_last l) (each_cut l is.each) }

hides_popped : (l : List (List ℕ)) → starts_with_empty_segment l ≡ false → starts_with_empty_segment (filled (all_but_last l)) ≡ false
hides_popped [] h = refl
hides_popped (s ∷ []) h = refl
hides_popped ([] ∷ r ∷ l) h = absurd (false≢true (sym h))
hides_popped ((b ∷ s) ∷ r ∷ l) h = refl

colon_popped : (l : List (List ℕ)) → is_first has_colon l ≡ false → is_first has_colon (filled (all_but_last l)) ≡ false
colon_popped [] h = refl
colon_popped (s ∷ []) h = refl
colon_popped (s ∷ r ∷ l) h = h

fits_popped : (w : Bool) (p : PathParts) → Fits w p → Fits w (popped p)
fits_popped w p is = record {
  listed = listed_popped p.segments is.listed;
  formed = by_flag p.absolute p.segments is.formed;
  rooted = is.rooted;
  shown = λ h. hides_popped p.segments (is.shown h);
}
  where
    by_flag : (a : Bool) (l : List (List ℕ)) → respelled (make a l) ≡ make a l → respelled (popped (make a l)) ≡ popped (make a l)
    by_flag true l h = refl
    by_flag false l h = plain_formed (popped (make false l)) (hides_popped l (formed_shown (make false l) h refl))

fit_popped : (p : Parts) → Valid p → HasPlace (is_some p.scheme) (is_some p.authority) (popped p.path)
fit_popped p v =
    placed (is_some p.scheme) (is_some p.authority) (popped p.path) (fits_popped (is_some p.authority) p.path (fits_of p v))
    (λ h k e. colon_popped p.path.segments (colon_of p v h k e))

-- a valid reference stays one without its last segment
pub valid_popped : (p : Parts) → Valid p → Valid (record p { path = popped p.path })
valid_popped p v =
    let z = fit_popped p v in
    record {
      is_scheme = v.is_scheme;
      is_authority = v.is_authority;
      is_path = z.is_path;
      absolute = if_there p.authority z.absolute;
      plain = z.plain;
      fit = z.fit;
      is_query = v.is_query;
      is_fragment = v.is_fragment;
    }

-- so the edit that sets this path is accepted
pub edited_popped : (p : Parts) → Valid p → edited p (edits.Path (popped p.path)) ≡ Ok (record p { path = popped p.path })
edited_popped p v = own_parts (record p { path = popped p.path }) (valid_popped p v)

-- ---- by the results of the calls

-- a push that was accepted appended the segment
pub pushed_path : (old new : PathParts) (s : List ℕ) (error : URIReferenceError)
    → SettlesUnless error old new (Ok tt) (of_piece errors.Path (pushing old (Ok s))) → of_piece errors.Path (pushing old (Ok s)) ≡ Ok new
pushed_path old new s error (inl h) = h
pushed_path old new s error (inr h) = let e = h.0 in cc

pub is_pushed : (old new : PathParts) (s : List ℕ) → of_piece errors.Path (pushing old (Ok s)) ≡ Ok new → new ≡ pushed old s
is_pushed old new s h = by_test (nat_lt (length old.segments) max_segments) h
  where
    by_test : (b : Bool) → of_piece errors.Path (cond b (Ok (pushed old s)) (Err ExceededMaximumLength)) ≡ Ok new → new ≡ pushed old s
    by_test true h = let e : Ok (pushed old s) ≡ Ok new = h in cc
    by_test false h = cc

-- a segment that makes a path that may not stand here is refused
pub refused_segment : (p : Parts) (s : List ℕ) (h : PathParts) (b d : Bool) (o : Option URIReferenceError) (e : URIReferenceError)
    → of_piece errors.Path (pushing p.path (Ok s)) ≡ Ok h → b ≡ is_some p.scheme → d ≡ is_some p.authority → o ≡ path_refusal b d (text h) → o ≡ Some e
    → segment_pushed p s ≡ Err e
refused_segment p s h b d o e k f g m n =
    let refusal : path_refusal (is_some p.scheme) (is_some p.authority) (text h) ≡ Some e =
    ap (λ u. path_refusal u (is_some p.authority) (text h)) (sym f) ∙ ap (λ u. path_refusal b u (text h)) (sym g) ∙ sym m ∙ n in
    ap (λ r. r >>= (λ x. edited p (edits.Path x))) k
    ∙ ap (λ x. unless_fault x (record p { path = Edits.placed (is_some p.authority) h })) refusal
