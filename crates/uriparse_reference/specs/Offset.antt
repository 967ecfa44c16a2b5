-- Where the fault of a text is, as a number of bytes from its beginning.
use Rattle.std.specs.Prelude.{◌≡◌, ◌↔◌, ℕ, ◌+◌, false, List, ◌++◌, length, Option, Some, slice_get}
use Rattle.std.specs.Option.{option_map}
use Rattle.uriparse_text.specs.declared.internal.class.Class.TheVariants.{Query}
use Rattle.uriparse_text.specs.Bytes.{colon, percent, question_mark, number_sign}
use Rattle.uriparse_text.specs.Cuts.{ahead, after, before, following, up_to}
use Rattle.uriparse_text.specs.Offset as text
use Rattle.uriparse_text.specs.Offset.{offset_after}
use Rattle.uriparse_text.specs.Fragment as fragment
use Rattle.uriparse_text.specs.Query as query
use Rattle.uriparse_path.specs.Faults as paths
use Rattle.uriparse_path.specs.Faults.{ends_path}
use Rattle.uriparse_path.specs.Path.{is_slash}
use Rattle.uriparse_path.specs.Offset as path
use Rattle.uriparse_authority.specs.Offset as authority
use Rattle.uriparse_reference.specs.declared.uri_reference.error.URIReferenceError.{URIReferenceError}
use Rattle.uriparse_reference.specs.declared.uri_reference.error.URIReferenceError.TheVariants as errors
use Rattle.uriparse_reference.specs.Reference.{after_slashes}
use Rattle.uriparse_reference.specs.Cuts.{scheme_text, authority_text, path_text, query_text, fragment_text}
use Rattle.uriparse_reference.specs.Reading.{fault}

-- The length of what precedes the path, of what precedes the query with its "?", and of what precedes the fragment with its "#".
abbrev pub path_begin : List ℕ → ℕ
path_begin t = length (ahead colon (scheme_text t) ++ after_slashes (authority_text t))

abbrev pub path_end : List ℕ → ℕ
path_end t = path_begin t + length (path_text t)

abbrev pub query_end : List ℕ → ℕ
query_end t = path_end t + length (following question_mark (query_text t))

-- The place of this error in the text: in a component that in the component, after what precedes it. A path that may not follow
-- what precedes it is wrong where it begins. Of the last two errors no text has one.
abbrev pub fault_offset : URIReferenceError → List ℕ → ℕ
fault_offset (errors.Authority e) t = length (ahead colon (scheme_text t)) + offset_after 2 (authority.fault_offset e) (authority_text t)
fault_offset (errors.Path e) t = path_begin t + path.fault_offset (path_text t)
fault_offset errors.AbsolutePathStartsWithTwoSlashes t = path_begin t
fault_offset errors.SchemelessPathStartsWithColonSegment t = path_begin t
fault_offset (errors.Query e) t = path_end t + offset_after 1 (text.fault_offset Query) (query_text t)
fault_offset (errors.Fragment e) t = query_end t + offset_after 1 (text.fault_offset Query) (fragment_text t)
fault_offset errors.MissingPath t = path_begin t
fault_offset (errors.Scheme e) t = 0

-- the fault of a text, and where it is
abbrev pub first_fault : List ℕ → Option (ℕ × URIReferenceError)
first_fault t = option_map (λ e. (fault_offset e t, e)) (fault t)

-- If this is the fault of the text, the byte at its place is a `%` exactly if P holds.
abbrev pub IsAtPercentIff : List ℕ → URIReferenceError → Type 0 → Type 0
IsAtPercentIff t e P = fault t ≡ Some e → P ↔ (slice_get t (fault_offset e t) ≡ Some percent)

-- A byte at which this error may be: one that may not stand in its component, or at which the path begins that may not follow what
-- precedes it. Of the errors without a byte no text has one.
abbrev pub IsWrongByte : URIReferenceError → ℕ → Type 0
IsWrongByte (errors.Authority e) b = authority.IsWrongByte e b
IsWrongByte (errors.Path e) b = paths.error_of b ≡ e
IsWrongByte errors.AbsolutePathStartsWithTwoSlashes b = ⊥
IsWrongByte errors.SchemelessPathStartsWithColonSegment b = is_slash b ≡ false
IsWrongByte (errors.Query e) b = query.error_of b ≡ e
IsWrongByte (errors.Fragment e) b = fragment.error_of b ≡ e
IsWrongByte errors.MissingPath b = ⊥
IsWrongByte (errors.Scheme e) b = ⊥

-- ---- words of the clauses of private functions alone

-- the place of this error in what follows the authority
abbrev pub tail_offset : URIReferenceError → List ℕ → ℕ
tail_offset (errors.Authority e) u = 0
tail_offset (errors.Path e) u = path.fault_offset (up_to ends_path u)
tail_offset errors.AbsolutePathStartsWithTwoSlashes u = 0
tail_offset errors.SchemelessPathStartsWithColonSegment u = 0
tail_offset (errors.Query e) u = length (up_to ends_path u) + offset_after 1 (text.fault_offset Query) (after question_mark (before number_sign u))
tail_offset (errors.Fragment e) u = length (before number_sign u) + offset_after 1 (text.fault_offset Query) (after number_sign u)
tail_offset errors.MissingPath u = 0
tail_offset (errors.Scheme e) u = 0
