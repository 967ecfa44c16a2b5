-- The reference that leads from a base to a target: the reverse of section 5.2.
use Rattle.std.specs.Prelude.{◌≡◌, ◌⊎◌, ℕ, Bool, true, false, not, ◌&&◌, ◌||◌, ◌==◌, if◌then◌else◌, List, Option, Some, None, IsSome, bytes_eq, is_none, is_some, unwrap_or}
use Rattle.std.specs.Option.{option_eq, option_map, option_or}
use Rattle.uriparse_path.specs.Path.{PathParts, has_two_slashes, text}
use Rattle.uriparse_path.specs.Dots.{has_dot_segment}
use Rattle.uriparse_path.specs.Relate.{leading, no_path}
use Rattle.uriparse_reference.specs.Key.{kind_code}
use Rattle.uriparse_reference.specs.Reference.{Parts, authority_part, kind, scheme_part}
use Rattle.uriparse_reference.specs.Target.{target}

-- the same reference without its scheme
abbrev pub without_scheme : Parts → Parts
without_scheme t = record t { scheme = None }

-- this path with the same query and fragment, without a scheme and an authority
abbrev pub following_path : Parts → PathParts → Parts
following_path t p = record { scheme = None; authority = None; path = p; query = t.query; fragment = t.fragment }

-- the fragment alone
abbrev pub fragment_alone : Parts → Parts
fragment_alone t = record { scheme = None; authority = None; path = no_path; query = None; fragment = t.fragment }

-- The path is absolute, and its text does not start with two slashes: it needs no authority.
abbrev pub stands_alone : PathParts → Bool
stands_alone p = p.absolute && not (has_two_slashes (text p))

-- the path that leads from one path to another, if schemes and authorities are equal: a relative one, or else the absolute one
abbrev pub inner : PathParts → PathParts → Option PathParts
inner b t = option_or (leading b t) (if stands_alone t then Some t else None)

-- the target, without its scheme if it has an authority
abbrev pub as_network_path : Parts → Parts
as_network_path t = if is_some t.authority then without_scheme t else t

-- the target's query, or none if the base has the same
abbrev pub query_left : Parts → Parts → Option (List ℕ)
query_left b t = if option_eq bytes_eq b.query t.query then None else t.query

-- that query and the target's fragment alone
abbrev pub in_place : Parts → Parts → Parts
in_place b t = record { scheme = None; authority = None; path = no_path; query = query_left b t; fragment = t.fragment }

-- Whether the schemes have the same text, or both are absent.
abbrev pub has_same_scheme : Parts → Parts → Bool
has_same_scheme b t = option_eq bytes_eq (scheme_part b) (scheme_part t)

-- Whether the authorities have the same text and hosts of the same kind, or both are absent.
abbrev pub has_same_authority : Parts → Parts → Bool
has_same_authority b t = option_eq bytes_eq (authority_part b) (authority_part t) && kind_code (kind b) == kind_code (kind t)

-- Whether the paths have the same text and no dot segments, and the target has a query or the base has none.
abbrev pub is_in_place : Parts → Parts → Bool
is_in_place b t =
    bytes_eq (text b.path) (text t.path) && (not (has_dot_segment t.path.segments) && (is_some t.query || is_none b.query))

-- The reference that leads from a base to a target: the target itself if the schemes differ; else without its scheme, if it has an authority and
-- the authorities differ; else what it has after the base's path, if that is its own path too; else the path that leads there; and if none does,
-- the target without its scheme, if it has an authority.
unfoldable pub relative : Parts → Parts → Parts
relative b t =
    if not (has_same_scheme b t) then t
    else if not (has_same_authority b t) then as_network_path t
    else if is_in_place b t then in_place b t
    else unwrap_or (option_map (following_path t) (inner b.path t.path)) (as_network_path t)

-- Base and target have equal schemes and authorities, component by component and in the same spelling.
pub record AreInOne (b t : Parts) : Type 0 where
  pub scheme : b.scheme ≡ t.scheme
  pub authority : b.authority ≡ t.authority

-- The paths are equal and have no dot segments, and the target has a query or the base has none, so no path is needed.
pub record IsInPlace (b t : Parts) : Type 0 where
  pub path : b.path ≡ t.path
  pub no_dots : has_dot_segment t.path.segments ≡ false
  pub query : IsSome t.query ⊎ (b.query ≡ None)

-- Against the base b, r has the same target as t.
abbrev pub LeadsTo : Parts → Parts → Parts → Type 0
LeadsTo b t r = target b r ≡ target b t

-- what a reference r that leads from b to t leaves out
pub record LeavesOut (b t r : Parts) : Type 0 where
  -- the scheme, if both have an equal scheme and the target has an authority, or neither has an authority and the target's path is absolute
  pub scheme : b.scheme ≡ t.scheme → (IsSome t.authority ⊎ ((b.authority ≡ None) × (t.path.absolute ≡ true))) → r.scheme ≡ None
  -- the scheme and the authority, and the part of the path that the path leading there omits
  pub path : AreInOne b t → (IsInPlace b t → ⊥) → (p : PathParts) → inner b.path t.path ≡ Some p → r ≡ following_path t p
  -- all but the query and the fragment, if no path is needed
  pub query : AreInOne b t → IsInPlace b t → r ≡ record { scheme = None; authority = None; path = no_path; query = r.query; fragment = t.fragment }
  -- all but the fragment, if the queries are equal too
  pub fragment : AreInOne b t → IsInPlace b t → b.query ≡ t.query → r ≡ fragment_alone t
  -- nothing or the scheme alone, if no path leads there
  pub whole : (AreInOne b t → (IsInPlace b t → ⊥) × (inner b.path t.path ≡ None)) → (r ≡ t) ⊎ (r ≡ without_scheme t)

-- Against the base b, r has the same target as t, and leaves out what LeavesOut says.
abbrev pub Relates : Parts → Parts → Parts → Type 0
Relates b t r = LeadsTo b t r × LeavesOut b t r

-- ---- words of private functions' clauses

-- what is left of the target's query after the base's path
abbrev pub IsQueryLeft : Parts → Parts → Option (List ℕ) → Type 0
IsQueryLeft b t q = ((b.query ≡ t.query) × (q ≡ None)) ⊎ ((b.query ≡ t.query → ⊥) × (q ≡ t.query))
