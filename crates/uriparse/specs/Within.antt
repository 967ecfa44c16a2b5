-- URIs below other URIs: RFC 3986, sections 3.3, 6.2.2 and 6.2.3.
use Rattle.std.specs.Prelude.{◌≡◌, ◌==◌, ◌&&◌, ◌||◌, not, ℕ, Bool, true, false, List, [], ◌∷◌, drop, length, Option, Some, bytes_eq}
use Rattle.std.specs.Option.{option_and_then, option_eq, option_map, option_or}
use Rattle.uriparse_scheme.specs.DefaultPort.{default_port}
use Rattle.uriparse_scheme.specs.Scheme as scheme
use Rattle.uriparse_scheme.specs.declared.scheme.Scheme.{Scheme}
use Rattle.uriparse_authority.specs.Authority as authority
use Rattle.uriparse_path.specs.Dots.{all_but_last}
use Rattle.uriparse_path.specs.Normal.{pnormal}
use Rattle.uriparse_path.specs.Within.{IsPathWithin, between_slashes, has_ambiguous, removes_unclear}
use Rattle.uriparse_reference.specs.Examples.{on_both}
use Rattle.uriparse_reference.specs.Reference.{Parts}
use Rattle.uriparse_reference.specs.Target.{target}

-- the authority with the port that it names, or else the default port of the scheme
abbrev pub with_used_port : Option Scheme → Option authority.AuthorityParts → Option authority.AuthorityParts
with_used_port s o =
    option_map (λ (a : authority.AuthorityParts). authority.with_port a (option_or a.port (option_and_then default_port s))) o

-- The schemes are equal, and so are the authorities, with the ports that they use: each in canonical spelling, and with hosts of one kind.
pub record IsSamePlace (s t : Option Scheme) (a b : Option authority.AuthorityParts) : Type 0 where
  pub schemes : option_map scheme.canonical_text s ≡ option_map scheme.canonical_text t
  pub authorities : option_map authority.key (with_used_port s a) ≡ option_map authority.key (with_used_port t b)

-- The URI is at the place of the base, and the normal form of its path is in the directory of the base's. In its path as it stands, no ".." removes
-- a segment on which readers disagree.
pub record IsWithin (p b : Parts) : Type 0 where
  pub place : IsSamePlace p.scheme b.scheme p.authority b.authority
  pub path : IsPathWithin (pnormal p.path false) (pnormal b.path false)
  pub clear : removes_unclear p.path ≡ false

-- ---- the same as a function: words of a law and of examples

-- the one list begins with all of the other
abbrev pub begins_with : List (List ℕ) → List (List ℕ) → Bool
begins_with ss [] = true
begins_with [] (d ∷ ds) = false
begins_with (s ∷ ss) (d ∷ ds) = bytes_eq s d && begins_with ss ds

-- there are segments, and none is ambiguous
abbrev pub are_clear : List (List ℕ) → Bool
are_clear [] = false
are_clear (s ∷ ss) = not (has_ambiguous (s ∷ ss))

abbrev pub are_within : List (List ℕ) → List (List ℕ) → Bool
are_within ss bs =
    (begins_with ss (all_but_last bs) && are_clear (drop (length (all_but_last bs)) ss)) && (not (length bs == 1) || (begins_with ss bs && begins_with bs ss))

abbrev pub is_same_place : Parts → Parts → Bool
is_same_place p b =
    option_eq bytes_eq (option_map scheme.canonical_text p.scheme) (option_map scheme.canonical_text b.scheme)
    && option_eq bytes_eq (option_map authority.key (with_used_port p.scheme p.authority)) (option_map authority.key (with_used_port b.scheme b.authority))

abbrev pub is_within : Parts → Parts → Bool
is_within p b =
    is_same_place p b && (are_within (between_slashes (pnormal p.path false)) (between_slashes (pnormal b.path false)) && not (removes_unclear p.path))

-- the same of two texts, if both spell references
abbrev pub shown_within : List ℕ → List ℕ → Option Bool
shown_within t u = on_both (λ p b. Some (is_within p b)) t u

-- whether the target of the second, resolved against the first, is below the first
abbrev pub target_within : List ℕ → List ℕ → Option Bool
target_within t u = on_both (λ b r. option_map (λ q. is_within q b) (target b r)) t u
