-- URIs: references that have a scheme. RFC 3986, section 3.
use Rattle.std.specs.Prelude.{◌≡◌, ℕ, List, true, Option, Some, None, Result, codes, unwrap_or}
use Rattle.std.specs.Str.{str_to_ascii_lowercase}
use Rattle.uriparse_scheme.specs.Scheme as scheme
use Rattle.uriparse_scheme.specs.declared.scheme.Scheme.{Scheme}
use Rattle.uriparse_text.specs.Readings.{◌>>=◌}
use Rattle.uriparse_reference.specs.declared.uri_reference.error.URIReferenceError.{URIReferenceError}
use Rattle.uriparse_reference.specs.declared.uri_reference.error.URIReferenceError.TheVariants as references
use Rattle.uriparse_reference.specs.Reference.{Parts}
use Rattle.uriparse_reference.specs.Builder.{Held, built}
use Rattle.uriparse.specs.declared.uri.error.URIError.{URIError}
use Rattle.uriparse.specs.declared.uri.error.URIError.TheVariants as errors
use Rattle.uriparse.specs.Kinds.{with_mapped_error, of_kind}

-- the error of a reference as one of a URI, where it is one: a path that only a scheme could precede is none
abbrev pub uri_error : URIReferenceError → Option URIError
uri_error references.AbsolutePathStartsWithTwoSlashes = Some errors.AbsolutePathStartsWithTwoSlashes
uri_error references.SchemelessPathStartsWithColonSegment = None
uri_error references.MissingPath = Some errors.MissingPath
uri_error (references.Authority e) = Some (errors.Authority e)
uri_error (references.Path e) = Some (errors.Path e)
uri_error (references.Query e) = Some (errors.Query e)
uri_error (references.Fragment e) = Some (errors.Fragment e)
uri_error (references.Scheme e) = Some (errors.Scheme e)

-- the error that a URI's caller gets: a reference without a scheme is not a URI
abbrev pub map_error : URIReferenceError → URIError
map_error e = unwrap_or (uri_error e) errors.NotURI

-- the error that a builder's caller gets: the scheme is missing
abbrev pub map_built_error : URIReferenceError → URIError
map_built_error e = unwrap_or (uri_error e) errors.MissingScheme

-- the URI that a builder makes of these parts: a path is needed first of all, and a scheme last
abbrev pub uri_built : Held → Result Parts URIError
uri_built h = with_mapped_error map_built_error (built h) >>= of_kind true errors.MissingScheme

-- without its fragment
abbrev pub base : Parts → Parts
base p = record p { fragment = None }

-- ---- which scheme a URI has: RFC 3986, section 3.1

-- the scheme has this name in lower case, however it is spelled
abbrev pub IsNamed : List ℕ → Scheme → Type 0
IsNamed name s = name ≡ str_to_ascii_lowercase (scheme.text s)

-- names of common schemes
abbrev pub http : List ℕ
http = codes "http"

abbrev pub https : List ℕ
https = codes "https"

abbrev pub ftp : List ℕ
ftp = codes "ftp"

abbrev pub file : List ℕ
file = codes "file"

abbrev pub mailto : List ℕ
mailto = codes "mailto"

abbrev pub urn : List ℕ
urn = codes "urn"
