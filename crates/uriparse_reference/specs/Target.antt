-- Resolving a reference against a base: RFC 3986, sections 5.2.2 to 5.2.4.
use Rattle.std.specs.Prelude.{◌≡◌, ℕ, Bool, true, false, not, ◌&&◌, nat_le, if◌then◌else◌, List, [], ◌∷◌, ◌++◌, length, Option, Some, None, is_some, Result, Err, MatchOption, MatchResult}
use Rattle.std.specs.Option.{option_or}
use Rattle.std.specs.List.{list_any}
use Rattle.uriparse_path.specs.Path.{PathParts, max_segments, is_slash, is_rooted, pieces, spelled, text}
use Rattle.uriparse_path.specs.Dots.{is_double_dot, undot}
use Rattle.uriparse_path.specs.Relative.{is_last}
use Rattle.uriparse_authority.specs.Authority as authority
use Rattle.uriparse_scheme.specs.declared.scheme.Scheme.{Scheme}
use Rattle.uriparse_reference.specs.declared.uri_reference.error.TargetError.{TargetError}
use Rattle.uriparse_reference.specs.declared.uri_reference.error.TargetError.TheVariants as errors
use Rattle.uriparse_reference.specs.Reference.{Parts, Same}
use Rattle.uriparse_reference.specs.Normal.{dot_prefixed, normal}

-- the text up to and including its last slash; empty if it has none
abbrev pub through_last_slash : List ℕ → List ℕ
through_last_slash [] = []
through_last_slash (b ∷ t) = if list_any is_slash (b ∷ t) then b ∷ through_last_slash t else []

-- Section 5.2.3: the base's path up to and including its last slash, followed by the reference's path. A base with an authority has no empty
-- path here, so that section's first case coincides with its second.
abbrev pub merge : Parts → Parts → List ℕ
merge b r = through_last_slash (text b.path) ++ text r.path

-- Section 5.2.4: the path of a text with its dot segments removed.
abbrev pub dots_removed : List ℕ → PathParts
dots_removed t = spelled (undot t)

abbrev pub is_empty : List ℕ → Bool
is_empty [] = true
is_empty (b ∷ t) = false

-- the target with these components; without an authority, a path that would start with "//" gets a leading "/."
abbrev pub target_of : Option Scheme → Option authority.AuthorityParts → PathParts → Option (List ℕ) → Option (List ℕ) → Parts
target_of scheme authority path query fragment = record {
  scheme = scheme;
  authority = authority;
  path = dot_prefixed authority path;
  query = query;
  fragment = fragment;
}

-- Section 5.2.2, test by test: a reference with a scheme, else with an authority, else with an empty path, else with a path that begins with a
-- slash, else with a path that is merged. There is no target if and only if the merged path has too many segments.
abbrev pub target : Parts → Parts → Option Parts
target b r =
    if is_some r.scheme then Some (target_of r.scheme r.authority (dots_removed (text r.path)) r.query r.fragment)
    else if is_some r.authority then Some (target_of b.scheme r.authority (dots_removed (text r.path)) r.query r.fragment)
    else if is_empty (text r.path) then Some (target_of b.scheme b.authority b.path (option_or r.query b.query) r.fragment)
    else if is_rooted (text r.path) then Some (target_of b.scheme b.authority (dots_removed (text r.path)) r.query r.fragment)
    else if nat_le (length (pieces (merge b r))) max_segments
    then Some (target_of b.scheme b.authority (dots_removed (merge b r)) r.query r.fragment)
    else None

-- The result is the target of r against b in the form that Is says, unless memory runs out; without a target, it is the error that says so.
abbrev pub ResolvesTo : {A : Type 0} → (Parts → A → Type 0) → Parts → Parts → Result A TargetError → Type 0
ResolvesTo Is b r result = MatchOption (target b r) (result ≡ Err errors.TooManySegments) (λ t. MatchResult result (Is t) (λ e. e ≡ errors.OutOfMemory))

-- The paths of base and reference are merged: the last case.
abbrev pub is_merged : Parts → Bool
is_merged r =
    not (is_some r.scheme) && (not (is_some r.authority) && (not (is_empty (text r.path)) && not (is_rooted (text r.path))))

-- When the normal forms of base and reference merge as these do: the base's path begins with a slash and does not end in a double dot segment,
-- and the normal form of the reference's path is not empty.
pub record MergesAlike (b r : Parts) : Type 0 where
  pub rooted : is_rooted (text b.path) ≡ true
  pub no_double_dot : is_last is_double_dot b.path.segments ≡ false
  pub not_empty : is_empty (text (normal r).path) ≡ false

-- The normal forms of base and reference have a target, and its normal form is t's.
abbrev pub NormalizesAlike : Parts → Parts → Parts → Type 0
NormalizesAlike b r t = (u : Parts) × (target (normal b) (normal r) ≡ Some u) × (normal t ≡ normal u)

-- Two targets are the same, or both are absent.
abbrev pub AreSame : Option Parts → Option Parts → Type 0
AreSame None None = Unit {0}
AreSame None (Some q) = ⊥
AreSame (Some p) None = ⊥
AreSame (Some p) (Some q) = Same p q
