-- Any text as a reference's, with escapes for the bytes that may not stand where they do: RFC 3986, section 2.1, and RFC 3987, section 3.1.
use Rattle.std.specs.Prelude.{ℕ, List, [], ◌++◌, Option, is_some, codes, length}
use Rattle.std.specs.Option.{option_map, option_and_then, option_or}
use Rattle.uriparse_text.specs.declared.internal.class.Class.TheVariants.{UserInfo, Segment, Query}
use Rattle.uriparse_text.specs.Bytes.{number_sign}
use Rattle.uriparse_text.specs.Cuts.{after, before, following}
use Rattle.uriparse_text.specs.Coding.{escaped_in}
use Rattle.uriparse_path.specs.Path.{max_segments, pieces}
use Rattle.uriparse_path.specs.Faults.{length_fault}
use Rattle.uriparse_authority.specs.Authority as authority
use Rattle.uriparse_reference.specs.declared.uri_reference.error.URIReferenceError.{URIReferenceError}
use Rattle.uriparse_reference.specs.declared.uri_reference.error.URIReferenceError.TheVariants as errors
use Rattle.uriparse_reference.specs.Reference.{joined, path_refusal}
use Rattle.uriparse_reference.specs.Cuts.{scheme_text, authority_text, path_text, query_text, fragment_text}

-- An authority keeps its delimiters ":", "@", "[" and "]": an escape in place of one would make another host of it.
abbrev pub escaped_authority : List ℕ → List ℕ
escaped_authority a = escaped_in UserInfo (codes "@[]") a

-- The text of a path is segments and slashes.
abbrev pub escaped_path : List ℕ → List ℕ
escaped_path h = escaped_in Segment (codes "/") h

-- the text of a query or a fragment
abbrev pub escaped_component : List ℕ → List ℕ
escaped_component c = escaped_in Query [] c

-- the text with each component escaped. Its scheme has no byte that it may not have.
unfoldable pub escaped : List ℕ → List ℕ
escaped t =
    joined (scheme_text t) (option_map escaped_authority (authority_text t)) (escaped_path (path_text t)) (option_map escaped_component (query_text t))
    (option_map escaped_component (fragment_text t))

-- What follows the authority, escaped: the path and the query are escaped as one, since a `?` may stand in a query. A word of private functions'
-- clauses alone.
abbrev pub escaped_end : List ℕ → List ℕ
escaped_end u = escaped_component (before number_sign u) ++ following number_sign (option_map escaped_component (after number_sign u))

-- The fault of the text after that: the authority's, too many segments, or the colon rule.
abbrev pub fault_left : List ℕ → Option URIReferenceError
fault_left t =
    option_or (option_map errors.Authority (option_and_then (λ a. authority.fault (escaped_authority a)) (authority_text t)))
    (option_or (option_map errors.Path (length_fault max_segments (length (pieces (path_text t)))))
    (path_refusal (is_some (scheme_text t)) (is_some (authority_text t)) (path_text t)))
