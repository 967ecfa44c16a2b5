-- What the text of a reference that leads from a base to a target is put together from: words of private functions' clauses.
use Rattle.std.specs.Prelude.{◌≡◌, ℕ, ◌++◌, if◌then◌else◌, List, ◌∷◌, Option, None, Some, MatchOption}
use Rattle.std.specs.List.{slice_split}
use Rattle.std.specs.Option.{option_map}
use Rattle.uriparse_text.specs.Bytes.{dot, slash}
use Rattle.uriparse_scheme.specs.Scheme as schemes
use Rattle.uriparse_authority.specs.Authority as authorities
use Rattle.uriparse_path.specs.Path.{PathParts, is_slash, text}
use Rattle.uriparse_path.specs.Dots.{all_but_last}
use Rattle.uriparse_path.specs.Relate.{apart, double_dots}
use Rattle.uriparse_path.specs.Remaining.{with_parent_steps}
use Rattle.uriparse_reference.specs.Reference.{Parts, joined}
use Rattle.uriparse_reference.specs.declared.uri_reference.view.relativize.path.PathText.{PathText}
use Rattle.uriparse_reference.specs.declared.uri_reference.view.relativize.RelativeParts.{RelativeParts}

-- ---- paths

-- the pieces of a text between slashes, without the last one
abbrev pub directories : List ℕ → List (List ℕ)
directories t = all_but_last (slice_split is_slash t)

-- what leads from the directories of one text to the pieces of another
abbrev pub apart_of : List ℕ → List ℕ → List (List ℕ)
apart_of b t = apart (directories b) (slice_split is_slash t)

-- They do not begin with the same directory.
abbrev pub AreApart : List ℕ → List ℕ → Type 0
AreApart b t = apart_of b t ≡ double_dots (directories b) ++ slice_split is_slash t

-- "./" if it is needed, as many "../", and the rest
abbrev pub path_text : PathText → List ℕ
path_text p =
    let steps = with_parent_steps p.parents p.rest.now in
    if p.dotted then dot ∷ slash ∷ steps else steps

-- It is put together for this path, if there is one.
abbrev pub IsOfPath : Option PathText → Option PathParts → Type 0
IsOfPath l path = MatchOption l (path ≡ None) (λ l. (p : PathParts) × (path ≡ Some p) × (path_text l ≡ text p))

-- ---- references

-- the texts of the components, put together
abbrev pub text_of : RelativeParts → List ℕ
text_of l = joined (option_map schemes.text l.scheme) (option_map authorities.print l.authority) (path_text l.path) l.query l.fragment

-- They are the reference r's.
pub record IsOf (l : RelativeParts) (r : Parts) : Type 0 where
  pub scheme : l.scheme ≡ r.scheme
  pub authority : l.authority ≡ r.authority
  pub path : path_text l.path ≡ text r.path
  pub query : l.query ≡ r.query
  pub fragment : l.fragment ≡ r.fragment
