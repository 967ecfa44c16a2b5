-- The errors of resolving, as those of a URI.
use Rattle.std.proofs.Common.{◌≡◌, true, Option, Some, None, Ok, Err, inl, inr, sym, ap, ◌∙◌}
use Rattle.std.specs.Prelude.{Result, MatchOption, is_some}
use Rattle.uriparse_text.specs.Readings.{IsUnless}
use Rattle.uriparse_text.specs.declared.segment.error.PathError.TheVariants as paths
use Rattle.uriparse_reference.specs.declared.uri_reference.error.URIReferenceError.{URIReferenceError}
use Rattle.uriparse_reference.specs.declared.uri_reference.error.URIReferenceError.TheVariants as references
use Rattle.uriparse_reference.specs.Reference.{Parts, Valid}
use Rattle.uriparse_reference.specs.Normal.{normal}
use Rattle.uriparse_reference.specs.Target.{MergesAlike, is_merged, target}
use Rattle.uriparse_reference.proofs.lemmas.resolving.CommutationLemmas.{commutes}
use Rattle.uriparse.specs.declared.uri.error.URIError.{URIError}
use Rattle.uriparse.specs.declared.uri.error.URIError.TheVariants as errors
use Rattle.uriparse.specs.Uri.{map_error}

abbrev pub Answers : {E : Type 0} → E → E → Option Parts → Result Parts E → Type 0
Answers long memory o r = MatchOption o (r ≡ Err long) (λ t. IsUnless memory r (Ok t))

-- an error reported as a URI's
pub refusal_told : (o : Option Parts) (e : URIReferenceError) (d : URIError) → d ≡ map_error e
    → Answers (references.Path paths.ExceededMaximumLength) (references.Path paths.OutOfMemory) o (Err e)
    → Answers (errors.Path paths.ExceededMaximumLength) (errors.Path paths.OutOfMemory) o (Err d)
refusal_told None e d k h =
    let same : e ≡ references.Path paths.ExceededMaximumLength = cc in
    ap Err (k ∙ ap map_error same)
refusal_told (Some t) e d k (inl h) = absurd (cc)
refusal_told (Some t) e d k (inr h) =
    let same : e ≡ references.Path paths.OutOfMemory = cc in
    inr (ap Err (k ∙ ap map_error same))

-- the target that is returned
answered : (o : Option Parts) (t : Parts) → Answers (references.Path paths.ExceededMaximumLength) (references.Path paths.OutOfMemory) o (Ok t) → o ≡ Some t
answered None t h = absurd (cc)
answered (Some u) t (inl h) = let same : t ≡ u = cc in ap Some (sym same)
answered (Some u) t (inr h) = absurd (cc)

-- the law of commutation, of the target that is returned
pub commutes_answered : (b r t : Parts) → Valid b → Valid r → is_some b.scheme ≡ true
    → Answers (references.Path paths.ExceededMaximumLength) (references.Path paths.OutOfMemory) (target b r) (Ok t)
    → (is_merged r ≡ true → MergesAlike b r) → (u : Parts) × (target (normal b) (normal r) ≡ Some u) × (normal t ≡ normal u)
commutes_answered b r t v w s h m = commutes b r t v w s m (answered (target b r) t h)
