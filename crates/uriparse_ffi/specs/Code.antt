-- The codes that a caller in C gets: 0, or one for each error. The header has a name for each that a call returns.
use Rattle.std.specs.Prelude.{ℕ, Bool, true, false, ◌+◌, ◌==◌, if◌then◌else◌}
use Rattle.uriparse_text.specs.declared.query.QueryError.{QueryError}
use Rattle.uriparse_text.specs.declared.query.QueryError.TheVariants as queries
use Rattle.uriparse_text.specs.declared.fragment.FragmentError.{FragmentError}
use Rattle.uriparse_text.specs.declared.fragment.FragmentError.TheVariants as fragments
use Rattle.uriparse_text.specs.declared.segment.error.PathError.{PathError}
use Rattle.uriparse_text.specs.declared.segment.error.PathError.TheVariants as paths
use Rattle.uriparse_authority.specs.declared.authority.error.AuthorityError.{AuthorityError}
use Rattle.uriparse_authority.specs.declared.authority.error.AuthorityError.TheVariants as authorities
use Rattle.uriparse_authority.specs.declared.authority.error.HostError.{HostError}
use Rattle.uriparse_authority.specs.declared.authority.error.HostError.TheVariants as hosts
use Rattle.uriparse_authority.specs.declared.authority.error.UsernameError.{UsernameError}
use Rattle.uriparse_authority.specs.declared.authority.error.UsernameError.TheVariants as usernames
use Rattle.uriparse_authority.specs.declared.authority.error.PasswordError.{PasswordError}
use Rattle.uriparse_authority.specs.declared.authority.error.PasswordError.TheVariants as passwords
use Rattle.uriparse_authority.specs.declared.authority.error.PortError.{PortError}
use Rattle.uriparse_authority.specs.declared.authority.error.PortError.TheVariants as ports
use Rattle.uriparse_scheme.specs.declared.scheme.error.SchemeError.{SchemeError}
use Rattle.uriparse_scheme.specs.declared.scheme.error.SchemeError.TheVariants as schemes
use Rattle.uriparse_reference.specs.declared.uri_reference.error.URIReferenceError.{URIReferenceError}
use Rattle.uriparse_reference.specs.declared.uri_reference.error.URIReferenceError.TheVariants as references
use Rattle.uriparse.specs.Uri.{map_error}
use Rattle.uriparse.specs.declared.uri.error.URIError.{URIError}
use Rattle.uriparse.specs.declared.uri.error.URIError.TheVariants as uris

-- A truth value, as a byte in C's memory. That memory may hold any byte before a call, and a `bool` may not.
abbrev pub truth : Bool → ℕ
truth false = 0
truth true = 1

-- there is no error
abbrev pub accepted : ℕ
accepted = 0

-- memory runs out
abbrev pub out_of_memory : ℕ
out_of_memory = 1

-- the caller's buffer is too small
abbrev pub no_room : ℕ
no_room = 2

-- the text has no scheme
abbrev pub no_scheme : ℕ
no_scheme = 3

-- the path has, or merged paths would have, too many segments
abbrev pub too_many_segments : ℕ
too_many_segments = 5

-- no component that is encoded has this number
abbrev pub no_component : ℕ
no_component = 8

-- the reference has no origin
abbrev pub no_origin : ℕ
no_origin = 10

-- a user name, a password or a port is set without a host
abbrev pub missing_host : ℕ
missing_host = 11

-- what is wanted of a component has no meaning
abbrev pub bad_change : ℕ
bad_change = 12

-- the names of pairs are no query
abbrev pub bad_names : ℕ
bad_names = 13

-- no pair of the query is left
abbrev pub no_pairs : ℕ
no_pairs = 14

-- the reference has no host that is an IP address
abbrev pub no_address : ℕ
no_address = 15

-- a sort key is asked for by flags without a meaning
abbrev pub key_flags : ℕ
key_flags = 0x90

-- the path of the reference is in no target of a request
abbrev pub no_target : ℕ
no_target = 0x91

-- added to the code of a base's error
abbrev pub in_base : ℕ
in_base = 0x100

abbrev pub username_code : UsernameError → ℕ
username_code usernames.ContainsColon = 0x10
username_code usernames.InvalidCharacter = 0x11
username_code usernames.InvalidPercentEncoding = 0x12

abbrev pub password_code : PasswordError → ℕ
password_code passwords.InvalidCharacter = 0x21
password_code passwords.InvalidPercentEncoding = 0x22

abbrev pub host_code : HostError → ℕ
host_code hosts.AddressMechanismNotSupported = 0x30
host_code hosts.InvalidIPv4OrRegisteredNameCharacter = 0x31
host_code hosts.InvalidIPv6Character = 0x32
host_code hosts.InvalidIPv6Format = 0x33
host_code hosts.InvalidIPvFutureCharacter = 0x34
host_code hosts.InvalidIPvFutureFormat = 0x35

abbrev pub port_code : PortError → ℕ
port_code ports.InvalidCharacter = 0x41
port_code ports.Overflow = 0x42

abbrev pub authority_code : AuthorityError → ℕ
authority_code (authorities.Host e) = host_code e
authority_code (authorities.Password e) = password_code e
authority_code (authorities.Port e) = port_code e
authority_code (authorities.Username e) = username_code e

abbrev pub path_code : PathError → ℕ
path_code paths.ExceededMaximumLength = too_many_segments
path_code paths.InvalidCharacter = 0x51
path_code paths.InvalidPercentEncoding = 0x52
path_code paths.OutOfMemory = out_of_memory

abbrev pub query_code : QueryError → ℕ
query_code queries.InvalidCharacter = 0x61
query_code queries.InvalidPercentEncoding = 0x62

abbrev pub fragment_code : FragmentError → ℕ
fragment_code fragments.InvalidCharacter = 0x71
fragment_code fragments.InvalidPercentEncoding = 0x72

abbrev pub scheme_code : SchemeError → ℕ
scheme_code schemes.Empty = 0x80
scheme_code schemes.InvalidCharacter = 0x81
scheme_code schemes.StartsWithNonAlphabetic = 0x82

-- Reading a reference never returns 6, 7, 0x10, 0x30, or the code of a scheme's error.
abbrev pub code_of : URIReferenceError → ℕ
code_of references.AbsolutePathStartsWithTwoSlashes = 6
code_of references.SchemelessPathStartsWithColonSegment = 4
code_of references.MissingPath = 7
code_of (references.Authority e) = authority_code e
code_of (references.Path e) = path_code e
code_of (references.Query e) = query_code e
code_of (references.Fragment e) = fragment_code e
code_of (references.Scheme e) = scheme_code e

-- Nor does reading a URI, or 9.
abbrev pub uri_code : URIError → ℕ
uri_code uris.AbsolutePathStartsWithTwoSlashes = 6
uri_code uris.MissingPath = 7
uri_code uris.MissingScheme = 9
uri_code uris.NotURI = no_scheme
uri_code (uris.Authority e) = authority_code e
uri_code (uris.Path e) = path_code e
uri_code (uris.Query e) = query_code e
uri_code (uris.Fragment e) = fragment_code e
uri_code (uris.Scheme e) = scheme_code e

-- the code of a reference's fault where a URI is read
abbrev pub fault_code : URIReferenceError → ℕ
fault_code e = uri_code (map_error e)

-- the code of a base's error: lack of memory is no fault of the base
abbrev pub base_code : ℕ → ℕ
base_code code = if code == out_of_memory then out_of_memory else in_base + code
