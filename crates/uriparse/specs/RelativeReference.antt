-- Relative references: those that have no scheme. RFC 3986, section 4.2.
use Rattle.std.specs.Prelude.{Option, Some, None, Result, unwrap_or}
use Rattle.uriparse_reference.specs.declared.uri_reference.error.URIReferenceError.{URIReferenceError}
use Rattle.uriparse_reference.specs.declared.uri_reference.error.URIReferenceError.TheVariants as references
use Rattle.uriparse_reference.specs.Reference.{Parts}
use Rattle.uriparse_reference.specs.Builder.{Held, built}
use Rattle.uriparse.specs.declared.relative_reference.error.RelativeReferenceError.{RelativeReferenceError}
use Rattle.uriparse.specs.declared.relative_reference.error.RelativeReferenceError.TheVariants as errors
use Rattle.uriparse.specs.Kinds.{with_mapped_error}

-- The error of a reference, as an error of relative references. A fault of a scheme has none: what has a scheme is no relative reference.
abbrev pub relative_error : URIReferenceError → Option RelativeReferenceError
relative_error references.AbsolutePathStartsWithTwoSlashes = Some errors.AbsolutePathStartsWithTwoSlashes
relative_error references.SchemelessPathStartsWithColonSegment = Some errors.SchemelessPathStartsWithColonSegment
relative_error references.MissingPath = Some errors.MissingPath
relative_error (references.Authority e) = Some (errors.Authority e)
relative_error (references.Path e) = Some (errors.Path e)
relative_error (references.Query e) = Some (errors.Query e)
relative_error (references.Fragment e) = Some (errors.Fragment e)
relative_error (references.Scheme e) = None

-- the error that a relative reference's caller gets
abbrev pub map_error : URIReferenceError → RelativeReferenceError
map_error e = unwrap_or (relative_error e) errors.NotRelativeReference

-- the relative reference that a builder makes of these parts
abbrev pub relative_built : Held → Result Parts RelativeReferenceError
relative_built h = with_mapped_error map_error (built h)
