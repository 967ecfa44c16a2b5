-- Normal forms of schemes: RFC 3986, sections 3.1 and 6.2.2.1.
use Rattle.uriparse_text.specs.Canonical.{canonical_lowered}
use Rattle.uriparse_scheme.specs.declared.scheme.Scheme.{Scheme}
use Rattle.uriparse_scheme.specs.declared.scheme.Scheme.TheVariants.{Registered, Unregistered}

-- the same scheme in canonical spelling; a registered scheme has it already
abbrev pub canonical_scheme : Scheme → Scheme
canonical_scheme (Registered s) = Registered s
canonical_scheme (Unregistered spelling) = Unregistered (canonical_lowered spelling)
