-- Schemas by their URIs.
use Rattle.std.specs.Prelude.{◌≡◌, ◌⊎◌, ℕ, Option, None}
use Rattle.std.specs.declared.hash.FoldHasher.{FoldHasher}
use Rattle.std.specs.declared.hash.BuildHasherDefault.{BuildHasherDefault}
use Rattle.std.specs.HashMap.{get_by, HashMap}
use Rattle.uriparse.specs.Reference.{Parts}
use Rattle.uriparse.specs.Target.{target}
use Rattle.uriparse.specs.View.{Viewed}
use Rattle.uriparse.specs.TargetError.{TargetError}
use Rattle.uriparse.specs.TargetError.TheVariants.{TooManySegments, OutOfMemory}
use Rattle.examples.specs.Equal.{is_equal}

-- what `Schemas` names in Rust
abbrev pub Schemas : Type 0
Schemas = HashMap Viewed ℕ (BuildHasherDefault FoldHasher)

-- the index of the schema that is known by an equal URI
abbrev pub known : Schemas → Parts → Option ℕ
known schemas uri = get_by (λ v. is_equal uri v.parts) schemas

-- Why a reference names no schema: it has no target, or memory ran out.
abbrev pub IsUntargeted : Parts → Parts → TargetError → Type 0
IsUntargeted base reference error = ((target base reference ≡ None) × (error ≡ TooManySegments)) ⊎ (error ≡ OutOfMemory)
