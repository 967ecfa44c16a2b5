-- Where links lead to: RFC 3986, section 5.2.2.
use Rattle.std.specs.Prelude.{◌≡◌, ◌⊎◌, ℕ, true, List, [], ◌∷◌, ◌++◌, Option, Some, None, Result, Ok, Err, MatchOption, map, take, is_some, slice_get}
use Rattle.std.specs.List.{list_all}
use Rattle.std.specs.Option.{IsSomeAnd}
use Rattle.uriparse.specs.PathError.TheVariants.{ExceededMaximumLength, OutOfMemory}
use Rattle.uriparse.specs.Escaped.{escaped}
use Rattle.uriparse.specs.Link.{link}
use Rattle.uriparse.specs.Reading.{fault}
use Rattle.uriparse.specs.Readings.{IsUnless}
use Rattle.uriparse.specs.Reference.{Parts, Spells}
use Rattle.uriparse.specs.Relate.{LeavesOut}
use Rattle.uriparse.specs.Target.{target}
use Rattle.uriparse.specs.URIReferenceError.{URIReferenceError}
use Rattle.uriparse.specs.Uri.{map_error}
use Rattle.uriparse.specs.declared.uri.error.URIError.{URIError}
use Rattle.uriparse.specs.declared.uri.error.URIError.TheVariants.{Path}

-- these are the links' targets, one for each and in order
abbrev pub AreTargets : Parts → List Parts → List Parts → Type 0
AreTargets base links targets = map (target base) links ≡ map Some targets

-- what a call returns that resolves: the target, if there is one
abbrev pub Resolves : Option Parts → Result Parts URIError → Type 0
Resolves o r = MatchOption o (r ≡ Err (Path ExceededMaximumLength)) (λ t. IsUnless (Path OutOfMemory) r (Ok t))

-- the URI that a link leads to, which stands in a page as people write it
abbrev pub Reaches : Parts → List ℕ → Parts → Type 0
Reaches base written u = (r : Parts) × Spells (escaped (link written)) r × (target base r ≡ Some u)

-- Why a link is rejected: it has no target, or memory ran out.
abbrev pub IsRefusal : Parts → Parts → URIError → Type 0
IsRefusal base link error = ((target base link ≡ None) × (error ≡ Path ExceededMaximumLength)) ⊎ (error ≡ Path OutOfMemory)

-- Why a link that stands in a page as people write it is rejected: its text has this fault, it has no target, or memory ran out.
abbrev pub IsRejected : Parts → List ℕ → URIError → Type 0
IsRejected base written error =
    ((e : URIReferenceError) × (fault (escaped (link written)) ≡ Some e) × (error ≡ map_error e))
    ⊎ (((r : Parts) × Spells (escaped (link written)) r × (target base r ≡ None) × (error ≡ Path ExceededMaximumLength))
    ⊎ (error ≡ Path OutOfMemory))

-- each of these links has a target
abbrev pub HaveTargets : Parts → List Parts → Type 0
HaveTargets base links = list_all (λ link. is_some (target base link)) links ≡ true

-- The link at this index is rejected, and each before it has a target.
pub record IsRefused (base : Parts) (links : List Parts) (index : ℕ) (error : URIError) : Type 0 where
  pub before : HaveTargets base (take index links)
  pub here : IsSomeAnd (slice_get links index) (λ link. IsRefusal base link error)

-- the link's target follows the others
abbrev pub Gains : Parts → Parts → List Parts → List Parts → Type 0
Gains base link old new = (t : Parts) × (target base link ≡ Some t) × (new ≡ old ++ t ∷ [])

-- the link leads from the base to the URI: it has the same target, and leaves out what both have in common
abbrev pub LinksTo : Parts → Parts → Parts → Type 0
LinksTo base uri link = (target base link ≡ target base uri) × LeavesOut base uri link

-- the links lead to the URIs in their places
abbrev pub AreLinks : Parts → List Parts → List Parts → Type 0
AreLinks base [] [] = Unit {0}
AreLinks base [] (l ∷ ls) = ⊥
AreLinks base (u ∷ us) [] = ⊥
AreLinks base (u ∷ us) (l ∷ ls) = LinksTo base u l × AreLinks base us ls

-- a link to the URI follows the others
abbrev pub GainsLink : Parts → Parts → List Parts → List Parts → Type 0
GainsLink base uri old new = (l : Parts) × LinksTo base uri l × (new ≡ old ++ l ∷ [])
