-- The text of a reference in a buffer of the caller: RFC 3986, sections 5.2.2, 5.3 and 6.2.2.
use Rattle.std.specs.Prelude.{◌≡◌, ℕ, List, [], ◌++◌, Option, Some, None, is_some, Result, Err, MatchOption}
use Rattle.std.specs.Option.{option_map}
use Rattle.uriparse_text.specs.declared.internal.backward_buffer.Form.{Form}
use Rattle.uriparse_text.specs.declared.internal.backward_buffer.Form.TheVariants.{AsIs, Canonical}
use Rattle.uriparse_text.specs.Bytes.{colon, question_mark, number_sign}
use Rattle.uriparse_text.specs.Cuts.{ahead, following}
use Rattle.uriparse_text.specs.Starts.{WritesOr}
use Rattle.uriparse_path.specs.Path as path
use Rattle.uriparse_path.specs.Edits.{with_dot_prefix_unless}
use Rattle.uriparse_authority.specs.Authority as authority
use Rattle.uriparse_authority.specs.Ends.{formed_authority}
use Rattle.uriparse_scheme.specs.Scheme as scheme
use Rattle.uriparse_scheme.specs.declared.scheme.Scheme.{Scheme}
use Rattle.uriparse_scheme.specs.Normal.{canonical_scheme}
use Rattle.uriparse_reference.specs.declared.uri_reference.error.BufferError.{BufferError}
use Rattle.uriparse_reference.specs.declared.uri_reference.error.BufferError.TheVariants as errors
use Rattle.uriparse_reference.specs.Reference.{Parts, after_slashes, print}
use Rattle.uriparse_reference.specs.Target.{dots_removed, merge, target}

-- The buffer begins with the text, or is too small for it: `WritesOr` says what is returned, and what is unchanged.
abbrev pub Writes : List ℕ → Result ℕ BufferError → List ℕ → List ℕ → Type 0
Writes t result old new = WritesOr errors.TooSmall t result old new

-- The same for the text of the target of r against b; without a target, the error says so and the buffer is unchanged.
abbrev pub WritesTarget : Parts → Parts → Result ℕ BufferError → List ℕ → List ℕ → Type 0
WritesTarget b r result old new = MatchOption (target b r) ((result ≡ Err errors.TooManySegments) × (new ≡ old)) (λ t. Writes (print t) result old new)

-- ---- words of the clauses of private and internal functions alone

-- the scheme as it is, or in canonical spelling
abbrev pub formed_scheme : Form → Scheme → Scheme
formed_scheme AsIs s = s
formed_scheme Canonical s = canonical_scheme s

-- [ scheme ":" ] [ "//" authority ], each so
abbrev pub scheme_front : Form → Option Scheme → List ℕ
scheme_front form s = ahead colon (option_map scheme.text (option_map (formed_scheme form) s))

abbrev pub authority_front : Form → Option authority.AuthorityParts → List ℕ
authority_front form a = after_slashes (option_map authority.print (option_map (formed_authority form) a))

-- path [ "?" query ] [ "#" fragment ]
abbrev pub tail_text : path.PathParts → Option (List ℕ) → Option (List ℕ) → List ℕ
tail_text p query fragment = path.text p ++ (following question_mark query ++ following number_sign fragment)

-- the path, query and fragment of the target of r against b, if paths are merged
abbrev pub merged_tail : Parts → Parts → List ℕ
merged_tail b r = tail_text (with_dot_prefix_unless (is_some b.authority) (dots_removed (merge b r))) r.query r.fragment

-- the same of a target, if there is one, and its text
abbrev pub tail_if : Option Parts → List ℕ
tail_if None = []
tail_if (Some t) = tail_text t.path t.query t.fragment

abbrev pub print_if : Option Parts → List ℕ
print_if None = []
print_if (Some t) = print t
