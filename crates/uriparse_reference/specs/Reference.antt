-- A reference, the texts that spell it, and its printed text: RFC 3986, sections 3, 3.3, 4.1, 4.2 and 5.3.
use Rattle.std.specs.Prelude.{◌≡◌, ℕ, Bool, true, false, ◌||◌, if◌then◌else◌, List, [], ◌∷◌, ◌++◌, Option, Some, None, IfSome, is_some}
use Rattle.std.specs.Option.{option_map, option_and_then, IsSomeAnd}
use Rattle.uriparse_text.specs.Bytes.{slash, colon, question_mark, number_sign}
use Rattle.uriparse_text.specs.Canonical.{canonical}
use Rattle.uriparse_text.specs.Cuts.{lacks, following, ahead, up_to}
use Rattle.uriparse_text.specs.Readings.{IfPresent}
use Rattle.uriparse_text.specs.Query.{IsQuery}
use Rattle.uriparse_text.specs.Fragment.{IsFragment}
use Rattle.uriparse_path.specs.Path as path
use Rattle.uriparse_path.specs.Path.{has_two_slashes}
use Rattle.uriparse_authority.specs.Authority as authority
use Rattle.uriparse_authority.specs.Host as host
use Rattle.uriparse_authority.specs.declared.authority.host.Host.{Host}
use Rattle.uriparse_scheme.specs.declared.scheme.Scheme.{Scheme}
use Rattle.uriparse_scheme.specs.Scheme as scheme
use Rattle.uriparse_reference.specs.declared.uri_reference.error.URIReferenceError.{URIReferenceError}
use Rattle.uriparse_reference.specs.declared.uri_reference.error.URIReferenceError.TheVariants as errors

-- the five components of a reference, as values
pub record Parts : Type 0 where
  pub scheme : Option Scheme
  pub authority : Option authority.AuthorityParts
  pub path : path.PathParts
  pub query : Option (List ℕ)
  pub fragment : Option (List ℕ)

-- the components of the authority, if it is present
abbrev pub username_of : Parts → Option (List ℕ)
username_of p = option_and_then (λ (a : authority.AuthorityParts). a.username) p.authority

abbrev pub password_of : Parts → Option (List ℕ)
password_of p = option_and_then (λ (a : authority.AuthorityParts). a.password) p.authority

abbrev pub host_of : Parts → Option Host
host_of p = option_map (λ (a : authority.AuthorityParts). a.host) p.authority

abbrev pub port_of : Parts → Option ℕ
port_of p = option_and_then (λ (a : authority.AuthorityParts). a.port) p.authority

-- [ "//" authority ]
abbrev pub after_slashes : Option (List ℕ) → List ℕ
after_slashes None = []
after_slashes (Some a) = slash ∷ slash ∷ a

-- [ scheme ":" ] [ "//" authority ] path [ "?" query ] [ "#" fragment ]
abbrev pub joined : Option (List ℕ) → Option (List ℕ) → List ℕ → Option (List ℕ) → Option (List ℕ) → List ℕ
joined scheme authority path query fragment =
    ahead colon scheme ++ (after_slashes authority ++ (path ++ (following question_mark query ++ following number_sign fragment)))

-- path-abempty: the text is empty or begins with a slash
abbrev pub is_abempty : List ℕ → Bool
is_abempty [] = true
is_abempty (b ∷ t) = path.is_slash b

-- path-noscheme, or path-absolute: the first segment has no colon. Before a leading slash there is no byte.
abbrev pub is_noscheme : List ℕ → Bool
is_noscheme h = lacks colon (up_to path.is_slash h)

-- Why a path with this text may not be in a reference with or without a scheme and an authority: without an authority it begins with two
-- slashes, or without a scheme too it is not a path-noscheme. After an authority a leading slash makes any path a path-abempty.
abbrev pub path_refusal : Bool → Bool → List ℕ → Option URIReferenceError
path_refusal has_scheme true path = None
path_refusal has_scheme false path =
    if has_two_slashes path then Some errors.AbsolutePathStartsWithTwoSlashes
    else if has_scheme || is_noscheme path then None
    else Some errors.SchemelessPathStartsWithColonSegment

-- the path that its text stands for: with an authority it is absolute
abbrev pub path_of : Bool → List ℕ → path.PathParts
path_of true h = path.made_absolute (path.spelled h)
path_of false h = path.spelled h

-- The text consists of these component texts, and each spells its component.
pub record Spells (t : List ℕ) (p : Parts) : Type 0 where
  pub scheme_text : Option (List ℕ)
  pub authority_text : Option (List ℕ)
  pub path_text : List ℕ
  pub whole : t ≡ joined scheme_text authority_text path_text p.query p.fragment
  pub is_scheme : IfPresent scheme.Spells scheme_text p.scheme
  pub is_authority : IfPresent authority.Spells authority_text p.authority
  pub is_path : path.IsPath path_text
  pub abempty : IfSome authority_text (λ _. is_abempty path_text ≡ true)
  pub fit : path_refusal (is_some scheme_text) (is_some authority_text) path_text ≡ None
  pub is_query : IfSome p.query IsQuery
  pub is_fragment : IfSome p.fragment IsFragment
  pub path : p.path ≡ path_of (is_some authority_text) path_text

-- the texts of the scheme and the authority of a reference
abbrev pub scheme_part : Parts → Option (List ℕ)
scheme_part p = option_map scheme.text p.scheme

abbrev pub authority_part : Parts → Option (List ℕ)
authority_part p = option_map authority.print p.authority

-- Each component is valid. With an authority the path is absolute. The path hides no slash, and may follow this scheme and authority.
pub record Valid (p : Parts) : Type 0 where
  pub is_scheme : IfSome p.scheme scheme.Valid
  pub is_authority : IfSome p.authority authority.Valid
  pub is_path : path.IsListed p.path.segments
  pub absolute : IfSome p.authority (λ _. p.path.absolute ≡ true)
  pub plain : path.has_hidden_root p.path ≡ false
  pub fit : path_refusal (is_some p.scheme) (is_some p.authority) (path.text p.path) ≡ None
  pub is_query : IfSome p.query IsQuery
  pub is_fragment : IfSome p.fragment IsFragment

-- The printed text of its authority, if present, reads back.
abbrev pub ReadsBack : Parts → Type 0
ReadsBack p = IfSome p.authority authority.ReadsBack

-- Its host is a name whose text spells an IPv4 address.
abbrev pub HidesAddress : Parts → Type 0
HidesAddress p = IsSomeAnd (host_of p) host.IsHiddenAddress

-- Both have hosts, and one has as a name what the other has as an IPv4 address.
abbrev pub OneHidesAddress : Parts → Parts → Type 0
OneHidesAddress p q = IsSomeAnd (host_of p) (λ g. IsSomeAnd (host_of q) (λ h. host.OneHidesAddress g h))

-- the text of a reference
abbrev pub print : Parts → List ℕ
print p = joined (scheme_part p) (authority_part p) (path.text p.path) p.query p.fragment

-- the text with each component in canonical spelling
abbrev pub canonical_text : Parts → List ℕ
canonical_text p =
    joined (option_map scheme.canonical_text p.scheme) (option_map authority.canonical_text p.authority) (canonical (path.text p.path))
    (option_map canonical p.query) (option_map canonical p.fragment)

-- the kind of its host, if it has one
abbrev pub kind : Parts → Option host.Kind
kind p = option_map authority.kind p.authority

-- the same canonical text, and no host or hosts of one kind
pub record Same (p q : Parts) : Type 0 where
  pub spelling : canonical_text p ≡ canonical_text q
  pub kinds : kind p ≡ kind q
