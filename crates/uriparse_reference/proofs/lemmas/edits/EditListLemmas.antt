-- The result of an edit of a valid reference; a list of edits has one outcome.
use Rattle.std.proofs.Common.{◌≡◌, ◌⊎◌, inl, inr, ℕ, suc, true, false, List, [], ◌∷◌, Option, Some, None, refl, sym, ap, ◌∙◌}
use Rattle.std.specs.Prelude.{Result, Ok, Err, is_some}
use Rattle.uriparse_text.specs.Readings.{unless_fault}
use Rattle.uriparse_path.specs.Path as path
use Rattle.uriparse_reference.specs.declared.uri_reference.edit.Edit.{Edit}
use Rattle.uriparse_reference.specs.declared.uri_reference.error.URIReferenceError.{URIReferenceError}
use Rattle.uriparse_reference.specs.declared.uri_reference.edit.Edit.TheVariants as edits
use Rattle.uriparse_reference.specs.Reference.{Parts, Valid, path_refusal}
use Rattle.uriparse_reference.specs.Normal.{normal}
use Rattle.uriparse_reference.specs.Edits.{placed, refusal, of_parts, edited, replaced, IsOutOfMemory, Run, ends, stops, goes}
use Rattle.uriparse_reference.proofs.lemmas.reading.SpellingLemmas.{same_path}
use Rattle.uriparse_reference.proofs.lemmas.edits.EditLemmas.{build, placed_same, accepts, own_parts, with_scheme}
use Rattle.uriparse_reference.proofs.lemmas.normalizing.NormalFormLemmas.{normal_valid}

-- an edit of a valid reference builds what its components build with one of them replaced
pub edited_parts : (p : Parts) (e : Edit) → Valid p → edited p e ≡ of_parts (replaced p e)
edited_parts p (edits.Scheme (Some s)) v =
    sym (accepts p (build (Some s) p.authority (placed (is_some p.authority) p.path) p.query p.fragment) (build (Some s) p.authority p.path p.query p.fragment)
    (path_refusal true (is_some p.authority) (path.text p.path)) (with_scheme (is_some p.scheme) (is_some p.authority) (path.text p.path) v.fit)
    (ap (λ h. build (Some s) p.authority h p.query p.fragment) (placed_same p v)))
edited_parts p (edits.Scheme None) v =
    ap (λ h. unless_fault (path_refusal false (is_some p.authority) (path.text p.path)) (build None p.authority h p.query p.fragment)) (sym (placed_same p v))
edited_parts p (edits.Authority (Some a)) v = refl
edited_parts p (edits.Authority None) v =
    ap (λ h. unless_fault (path_refusal (is_some p.scheme) false (path.text p.path)) (build p.scheme None h p.query p.fragment))
    (sym (same_path p.path v.is_path v.plain))
edited_parts p (edits.Path h) v = refl
edited_parts p (edits.Query q) v =
    sym (accepts p (build p.scheme p.authority (placed (is_some p.authority) p.path) q p.fragment) (build p.scheme p.authority p.path q p.fragment)
    (refusal p) v.fit
    (ap (λ h. build p.scheme p.authority h q p.fragment) (placed_same p v)))
edited_parts p (edits.Fragment f) v =
    sym (accepts p (build p.scheme p.authority (placed (is_some p.authority) p.path) p.query f) (build p.scheme p.authority p.path p.query f) (refusal p) v.fit
    (ap (λ h. build p.scheme p.authority h p.query f) (placed_same p v)))
edited_parts p edits.Normalize v = sym (own_parts (normal p) (normal_valid p v))

-- ---- lists of edits

record Outcome : Type 0 where
  count : ℕ
  parts : Parts
  refusal : Option URIReferenceError

abbrev one_more : Outcome → Outcome
one_more x = record { count = suc x.count; parts = x.parts; refusal = x.refusal }

abbrev next : Result Parts URIReferenceError → Parts → (Parts → Outcome) → Outcome
next (Ok q) p go = one_more (go q)
next (Err x) p go = record { count = 0; parts = p; refusal = Some x }

abbrev outcome : Parts → List Edit → Outcome
outcome p [] = record { count = 0; parts = p; refusal = None }
outcome p (e ∷ es) = next (edited p e) p (λ q. outcome q es)

-- memory ran out, or it is the outcome by the rules
has_outcome : (p : Parts) (es : List Edit) (n : ℕ) (q : Parts) (o : Option URIReferenceError) → Run p es n q o
    → IsOutOfMemory o ⊎ (outcome p es ≡ record { count = n; parts = q; refusal = o })
has_outcome _ _ _ _ _ (ends p) = inr refl
has_outcome _ _ _ _ _ (stops p e es x (inl h)) = inr (ap (λ r. next r p (λ q. outcome q es)) h)
has_outcome _ _ _ _ _ (stops p e es x (inr w)) = inl (ap Some w.error)
has_outcome _ _ _ _ _ (goes p r q e es m o h k) = more (has_outcome r es m q o k)
  where
    more : IsOutOfMemory o ⊎ (outcome r es ≡ record { count = m; parts = q; refusal = o })
        → IsOutOfMemory o ⊎ (outcome p (e ∷ es) ≡ record { count = suc m; parts = q; refusal = o })
    more (inl w) = inl w
    more (inr g) = inr (ap (λ r. next r p (λ q. outcome q es)) h ∙ ap one_more g)

pub one_run : (p q r : Parts) (es : List Edit) (n m : ℕ) (o u : Option URIReferenceError) → Run p es n q o → Run p es m r u
    → IsOutOfMemory o ⊎ (IsOutOfMemory u ⊎ ((n ≡ m) × (q ≡ r) × (o ≡ u)))
one_run p q r es n m o u h k = by_outcome (has_outcome p es n q o h) (has_outcome p es m r u k)
  where
    by_outcome : IsOutOfMemory o ⊎ (outcome p es ≡ record { count = n; parts = q; refusal = o })
        → IsOutOfMemory u ⊎ (outcome p es ≡ record { count = m; parts = r; refusal = u }) → IsOutOfMemory o ⊎ (IsOutOfMemory u ⊎ ((n ≡ m) × (q ≡ r) × (o ≡ u)))
    by_outcome (inl w) y = inl w
    by_outcome (inr e) (inl w) = inr (inl w)
    by_outcome (inr e) (inr f) =
        let same = sym e ∙ f in
        inr (inr (ap (λ x. x.count) same, ap (λ x. x.parts) same, ap (λ x. x.refusal) same))
