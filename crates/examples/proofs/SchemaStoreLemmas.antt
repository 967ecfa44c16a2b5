-- A store of schemas: what a URI names before and after one is added.
use Rattle.std.proofs.Common.{◌≡◌, ℕ, Bool, true, false, cond, [], Option, Some, None, IsSome, refl, sym, ap, subst, ◌∙◌, inl, inr}
use Rattle.std.specs.Prelude.{◌⊎◌, is_some}
use Rattle.std.proofs.lemmas.Bool.{false≢true}
use Rattle.uriparse.specs.Reference.{Parts}
use Rattle.uriparse.specs.Target.{target}
use Rattle.uriparse.specs.TargetError.{TargetError}
use Rattle.uriparse.specs.TargetError.TheVariants.{TooManySegments, OutOfMemory}
use Rattle.examples.specs.SchemaStore.{IsUntargeted, Schemas, known}

pub is_none : {X : Type 0} (o : Option X) → is_some o ≡ false → o ≡ None
is_none None h = refl
is_none (Some x) h = absurd (cc)

-- a reference with a target names no schema only if memory runs out
pub untargeted : (base reference t : Parts) (e : TargetError) → IsUntargeted base reference e → target base reference ≡ Some t → e ≡ OutOfMemory
untargeted base reference t e (inl none) is = let bad : None ≡ Some t = sym none.0 ∙ is in absurd (cc)
untargeted base reference t e (inr memory) is = memory

-- one target names one schema
pub one_target : (base reference t u : Parts) → target base reference ≡ Some t → target base reference ≡ Some u → t ≡ u
one_target base reference t u e f = let both : Some t ≡ Some u = sym e ∙ f in cc

pub not_both : (schemas : Schemas) (p q : Parts) → p ≡ q → known schemas p ≡ None → IsSome (known schemas q) → ⊥
not_both schemas p q same none some = false≢true (subst IsSome (sym (ap (known schemas) same) ∙ none) some)
