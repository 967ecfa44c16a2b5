-- The result of viewing a reference of one kind.
use Rattle.std.proofs.Common.{◌≡◌, ℕ, Bool, true, false, cond, List, Ok, Err, refl, sym, ap, subst, ◌∙◌}
use Rattle.std.specs.Prelude.{IfErr, IfOk, Result, Some, is_some}
use Rattle.std.specs.Bool.{beq}
use Rattle.uriparse_text.specs.Readings.{◌>>=◌, fault_in}
use Rattle.uriparse_reference.specs.declared.uri_reference.error.URIReferenceError.{URIReferenceError}
use Rattle.uriparse_reference.specs.Reference.{Parts, Spells}
use Rattle.uriparse_reference.specs.Reading.{reading}
use Rattle.uriparse_reference.specs.View.{Viewed, viewed}
use Rattle.uriparse_reference.proofs.lemmas.reading.ReadingLemmas.{found}
use Rattle.uriparse.specs.Kinds.{IsOfKind, fault_of, of_kind, reading_of, with_mapped_error, viewed_of}
use Rattle.uriparse.proofs.lemmas.KindLemmas.{of_its_kind, read_of, taken}

abbrev with_text : {E : Type 0} → List ℕ → Result Parts E → Result Viewed E
with_text t r = do
  parts ← r
  Ok (record { text = t; parts = parts })

-- ---- what the body returns

-- a view is taken if it is of the kind
pub viewed_kind : {E : Type 0} (v : Bool) (map_error : URIReferenceError → E) (other : E) (t : List ℕ) (w : Viewed) → w.text ≡ t → Spells t w.parts
    → ◌≡◌ {A = Result Viewed E} (cond (beq (is_some w.parts.scheme) v) (Ok w) (Err other)) (viewed_of v map_error other t)
viewed_kind {E} v map_error other t w e s =
    by_flag (beq (is_some w.parts.scheme) v) ∙ sym (ap (with_text t) (read_of v map_error other t w.parts s))
  where
    by_flag : (b : Bool) → ◌≡◌ {A = Result Viewed E} (cond b (Ok w) (Err other)) (with_text t (cond b (Ok w.parts) (Err other)))
    by_flag true = ap (λ u. Ok (record { text = u; parts = w.parts })) e
    by_flag false = refl

-- a fault is reported as the kind's error
faulty : (t : List ℕ) (r : Result Parts URIReferenceError) (e : URIReferenceError) → ◌≡◌ {A = Result Viewed URIReferenceError} (Err e) (with_text t r) → r ≡ Err e
faulty t (Ok p) e h = absurd (cc)
faulty t (Err x) e h =
    let same : e ≡ x = cc in
    ap Err (sym same)

pub viewed_fault : {E : Type 0} (v : Bool) (map_error : URIReferenceError → E) (other : E) (t : List ℕ) (e : URIReferenceError)
    → ◌≡◌ {A = Result Viewed URIReferenceError} (Err e) (viewed t) → ◌≡◌ {A = Result Viewed E} (Err (map_error e)) (viewed_of v map_error other t)
viewed_fault v map_error other t e h = sym (ap (λ r. with_text t (with_mapped_error map_error r >>= of_kind v other)) (faulty t (reading t) e h))

-- ---- the same in the grammar's words

pub viewed_text : {E : Type 0} (v : Bool) (map_error : URIReferenceError → E) (other : E) (t : List ℕ) (r : Result Viewed E) → r ≡ viewed_of v map_error other t
    → IfOk r (λ w. w.text ≡ t)
viewed_text {E} v map_error other t r e = subst (λ o. IfOk o (λ w. w.text ≡ t)) (sym e) (kept (reading_of v map_error other t))
  where
    kept : (o : Result Parts E) → IfOk (with_text t o) (λ w. w.text ≡ t)
    kept (Ok p) = refl
    kept (Err x) = tt

pub viewed_spelled : {E : Type 0} (v : Bool) (map_error : URIReferenceError → E) (other : E) (t : List ℕ) (r : Result Viewed E) → r ≡ viewed_of v map_error other t
    → IfOk r (λ w. Spells t w.parts)
viewed_spelled {E} v map_error other t r e = subst (λ o. IfOk o (λ w. Spells t w.parts)) (sym e) (spelled (reading_of v map_error other t) refl)
  where
    spelled : (o : Result Parts E) → reading_of v map_error other t ≡ o → IfOk (with_text t o) (λ w. Spells t w.parts)
    spelled (Ok p) is = found t p (taken v map_error other (reading t) p (sym is))
    spelled (Err x) is = tt

pub viewed_only : {E : Type 0} (v : Bool) (map_error : URIReferenceError → E) (other : E) (t : List ℕ) (p : Parts) → Spells t p → IsOfKind v p
    → viewed_of v map_error other t ≡ Ok (record { text = t; parts = p })
viewed_only v map_error other t p s k = ap (with_text t) (read_of v map_error other t p s ∙ of_its_kind v other p k)

pub viewed_faulty : {E : Type 0} (v : Bool) (map_error : URIReferenceError → E) (other : E) (t : List ℕ) (r : Result Viewed E) → r ≡ viewed_of v map_error other t
    → IfErr r (λ x. fault_of v map_error other t ≡ Some x)
viewed_faulty {E} v map_error other t r e = subst (λ o. IfErr o (λ x. fault_of v map_error other t ≡ Some x)) (sym e) (by_reading (reading_of v map_error other t) refl)
  where
    by_reading : (o : Result Parts E) → reading_of v map_error other t ≡ o → IfErr (with_text t o) (λ x. fault_of v map_error other t ≡ Some x)
    by_reading (Ok p) is = tt
    by_reading (Err x) is = ap fault_in is
