-- Reading a text as a reference: its components, or the first fault.
use Rattle.std.specs.Prelude.{◌≡◌, ◌⊎◌, ℕ, Bool, List, Option, None, Result, Ok, Err, is_some}
use Rattle.std.specs.Option.{option_map}
use Rattle.uriparse_text.specs.Readings.{◌>>=◌, of_piece, if_present, fault_in, unless_fault}
use Rattle.uriparse_text.specs.Bytes.{question_mark, number_sign}
use Rattle.uriparse_text.specs.Cuts.{up_to, before, after}
use Rattle.uriparse_text.specs.Query as query
use Rattle.uriparse_text.specs.Fragment as fragment
use Rattle.uriparse_text.specs.declared.segment.error.PathError.TheVariants.{OutOfMemory}
use Rattle.uriparse_path.specs.Path.{PathParts}
use Rattle.uriparse_path.specs.Faults as path
use Rattle.uriparse_path.specs.Faults.{ends_path}
use Rattle.uriparse_authority.specs.Authority as authority
use Rattle.uriparse_scheme.specs.Scheme as scheme
use Rattle.uriparse_reference.specs.declared.uri_reference.error.URIReferenceError.{URIReferenceError}
use Rattle.uriparse_reference.specs.declared.uri_reference.error.URIReferenceError.TheVariants as errors
use Rattle.uriparse_reference.specs.Reference.{Parts, path_of, path_refusal}
use Rattle.uriparse_reference.specs.Cuts.{scheme_text, authority_text, cut_authority, path_text, query_text, fragment_text}

-- The path that a text stands for, with or without a scheme and an authority; or its fault, or else why it may not follow them.
abbrev pub path_reading : Bool → Bool → List ℕ → Result PathParts URIReferenceError
path_reading has_scheme has_authority h = do
  _ ← of_piece errors.Path (path.reading h)
  unless_fault (path_refusal has_scheme has_authority h) (path_of has_authority h)

-- the components of a text, or the first fault
unfoldable pub reading : List ℕ → Result Parts URIReferenceError
reading t = do
  authority ← of_piece errors.Authority (if_present authority.reading (authority_text t))
  path ← path_reading (is_some (scheme_text t)) (is_some (authority_text t)) (path_text t)
  query ← of_piece errors.Query (if_present query.reading (query_text t))
  fragment ← of_piece errors.Fragment (if_present fragment.reading (fragment_text t))
  Ok (record { scheme = option_map scheme.named (scheme_text t); authority = authority; path = path; query = query; fragment = fragment })

-- the fault of a text
abbrev pub fault : List ℕ → Option URIReferenceError
fault t = fault_in (reading t)

-- ---- words of the clauses of private functions alone: no public clause needs them

-- The result is right; or, if the right one is no fault, memory ran out.
abbrev pub IsUnlessMemory : {A : Type 0} → Result A URIReferenceError → Result A URIReferenceError → Type 0
IsUnlessMemory answer right = (answer ≡ right) ⊎ ((fault_in right ≡ None) × (answer ≡ Err (errors.Path OutOfMemory)))

abbrev pub IsAnswer : List ℕ → Result Parts URIReferenceError → Type 0
IsAnswer t answer = IsUnlessMemory answer (reading t)

-- reading the authority after two leading slashes, if present
abbrev pub front_reading : List ℕ → Result (Option authority.AuthorityParts) URIReferenceError
front_reading u = of_piece errors.Authority (if_present authority.reading (cut_authority u))

-- reading a query and a fragment
abbrev pub after_reading : Option (List ℕ) → Option (List ℕ) → Result (Option (List ℕ) × Option (List ℕ)) URIReferenceError
after_reading q f = do
  query ← of_piece errors.Query (if_present query.reading q)
  fragment ← of_piece errors.Fragment (if_present fragment.reading f)
  Ok (query, fragment)

-- reading the components that follow the authority, with or without a scheme and an authority
abbrev pub tail_reading : Bool → Bool → List ℕ → Option (List ℕ) → Option (List ℕ)
    → Result (PathParts × Option (List ℕ) × Option (List ℕ)) URIReferenceError
tail_reading has_scheme has_authority h q f = do
  path ← path_reading has_scheme has_authority h
  query ← of_piece errors.Query (if_present query.reading q)
  fragment ← of_piece errors.Fragment (if_present fragment.reading f)
  Ok (path, query, fragment)

-- the same for the text of these components
abbrev pub text_tail : Bool → Bool → List ℕ → Result (PathParts × Option (List ℕ) × Option (List ℕ)) URIReferenceError
text_tail has_scheme has_authority u =
    tail_reading has_scheme has_authority (up_to ends_path u) (after question_mark (before number_sign u)) (after number_sign u)

-- the components that were found in a text
abbrev pub parts_of : List ℕ → Option authority.AuthorityParts → List ℕ → Option (List ℕ) → Option (List ℕ) → Parts
parts_of t a h q f =
    record { scheme = option_map scheme.named (scheme_text t); authority = a; path = path_of (is_some a) h; query = q; fragment = f }
