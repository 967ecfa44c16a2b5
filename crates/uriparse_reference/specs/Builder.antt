-- A builder of references: its components, its calls, and what it builds.
use Rattle.std.specs.Prelude.{ℕ, Bool, List, Option, Some, None, Result, Ok, Err, bytes_eq}
use Rattle.std.specs.Option.{option_eq}
use Rattle.std.specs.Ordering.{eq_of_both, on}
use Rattle.uriparse_text.specs.Canonical.{canonical}
use Rattle.uriparse_text.specs.Readings.{◌>>=◌, if_present, of_piece}
use Rattle.uriparse_text.specs.Query as query
use Rattle.uriparse_text.specs.Fragment as fragment
use Rattle.uriparse_path.specs.Faults as path
use Rattle.uriparse_path.specs.Path.{PathParts, text}
use Rattle.uriparse_authority.specs.Authority as authority
use Rattle.uriparse_scheme.specs.Scheme as scheme
use Rattle.uriparse_scheme.specs.declared.scheme.Scheme.{Scheme}
use Rattle.uriparse_reference.specs.declared.uri_reference.error.URIReferenceError.{URIReferenceError}
use Rattle.uriparse_reference.specs.declared.uri_reference.error.URIReferenceError.TheVariants as errors
use Rattle.uriparse_reference.specs.Reference.{Parts}
use Rattle.uriparse_reference.specs.Edits.{of_parts}

-- the components that were given so far
pub record Held : Type 0 where
  pub scheme : Option Scheme
  pub authority : Option authority.AuthorityParts
  pub path : Option PathParts
  pub query : Option (List ℕ)
  pub fragment : Option (List ℕ)

-- no component
abbrev pub nothing : Held
nothing = record { scheme = None; authority = None; path = None; query = None; fragment = None }

-- all components of a reference
abbrev pub held : Parts → Held
held p = record { scheme = p.scheme; authority = p.authority; path = Some p.path; query = p.query; fragment = p.fragment }

-- Each component is present in both and equal, or absent in both.
abbrev pub alike : Held → Held → Bool
alike =
    eq_of_both (on (λ (h : Held). h.scheme) (option_eq (on scheme.canonical_text bytes_eq)))
    (eq_of_both (on (λ (h : Held). h.authority) (option_eq (on authority.key bytes_eq)))
    (eq_of_both (on (λ (h : Held). h.path) (option_eq (on (λ (p : PathParts). canonical (text p)) bytes_eq)))
    (eq_of_both (on (λ (h : Held). h.query) (option_eq (on canonical bytes_eq)))
    (on (λ (h : Held). h.fragment) (option_eq (on canonical bytes_eq))))))

-- The components with one replaced by what a text spells, or by none without a text; or the fault of the text.
abbrev pub scheme_read : Held → Option (List ℕ) → Result Held URIReferenceError
scheme_read h t = of_piece errors.Scheme (if_present scheme.reading t) >>= λ s. Ok (record h { scheme = s })

abbrev pub authority_read : Held → Option (List ℕ) → Result Held URIReferenceError
authority_read h t = of_piece errors.Authority (if_present authority.whole_reading t) >>= λ a. Ok (record h { authority = a })

abbrev pub path_read : Held → List ℕ → Result Held URIReferenceError
path_read h t = of_piece errors.Path (path.reading t) >>= λ p. Ok (record h { path = Some p })

abbrev pub query_read : Held → Option (List ℕ) → Result Held URIReferenceError
query_read h t = of_piece errors.Query (if_present query.reading t) >>= λ q. Ok (record h { query = q })

abbrev pub fragment_read : Held → Option (List ℕ) → Result Held URIReferenceError
fragment_read h t = of_piece errors.Fragment (if_present fragment.reading t) >>= λ f. Ok (record h { fragment = f })

-- the reference of these components with this path, or why there is none; a path is required first
abbrev pub built_with : Held → Option PathParts → Result Parts URIReferenceError
built_with h None = Err errors.MissingPath
built_with h (Some p) = of_parts (record { scheme = h.scheme; authority = h.authority; path = p; query = h.query; fragment = h.fragment })

abbrev pub built : Held → Result Parts URIReferenceError
built h = built_with h h.path
