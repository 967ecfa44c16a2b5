-- What the URL Standard (WHATWG) reads in a string: its basic URL parser without a base, for the schemes http, https, ws, wss and ftp, on strings
-- that RFC 3986 accepts. So there is no tab, space, backslash or byte that is not ASCII. Each definition names the part of the Standard that it
-- tells. Unicode's tables are left open: `idna` is what they make of a domain that needs them.
use Rattle.std.specs.Prelude.{◌≡◌, ℕ, ◌+◌, ◌-◌, ◌*◌, ◌^◌, ◌==◌, ◌&&◌, ◌||◌, not, nat_le, nat_lt, Bool, true, false, if◌then◌else◌, List, [], ◌∷◌, length, drop, take, Option, Some, None, bytes_eq, codes, is_some, unwrap_or}
use Rattle.std.specs.Char.{is_digit}
use Rattle.std.specs.List.{flat_map, list_all, list_any, slice_split}
use Rattle.std.specs.Option.{option_and_then, option_map, option_or}
use Rattle.std.specs.Str.{str_to_ascii_lowercase}
use Rattle.std.specs.Str.Parse.{digits_value}
use Rattle.uriparse_text.specs.Address.{ipv6_reading}
use Rattle.uriparse_text.specs.Bytes.{at_sign, colon, is_among, left_bracket, number_sign, question_mark, right_bracket, slash}
use Rattle.uriparse_text.specs.Canonical.{canonical_lowered}
use Rattle.uriparse_text.specs.Coding.{decoded, escape_of}
use Rattle.uriparse_text.specs.Cuts.{after, before, from_first, from_last, up_to, up_to_last}
use Rattle.uriparse_text.specs.Tokens.{spell}
use Rattle.uriparse_scheme.specs.Scheme as scheme
use Rattle.uriparse_authority.specs.Authority.{ends_authority}
use Rattle.uriparse_authority.specs.Host.{in_brackets}
use Rattle.uriparse_authority.specs.Port.{are_digits, largest, value_of}
use Rattle.uriparse_authority.specs.Within.{is_dot, labels, last_label}
use Rattle.uriparse_authority.specs.declared.authority.host.Host.{Host}
use Rattle.uriparse_authority.specs.declared.authority.host.Host.TheVariants.{IPv4Address, IPv6Address, IPvFuture, RegisteredName}
use Rattle.uriparse_path.specs.Dots.{replay, without_dots}
use Rattle.uriparse_path.specs.Faults.{ends_path}
use Rattle.uriparse_path.specs.Path.{pieces}
use Rattle.uriparse_reference.specs.Cuts.{after_scheme, scheme_text}
use Rattle.uriparse_reference.specs.Ports.{port_or_default}
use Rattle.uriparse_reference.specs.Reference.{Parts, host_of, password_of, username_of}

-- "host": a domain in ASCII, the number of an IPv4 address, or the eight pieces of an IPv6 address
pub data WebHost : Type 0 where
  Domain : List ℕ → WebHost
  Ipv4 : ℕ → WebHost
  Ipv6 : List ℕ → WebHost

-- "URL": a default port is no port, and an absent user name or password is empty
pub record WebUrl : Type 0 where
  pub scheme : List ℕ
  pub username : List ℕ
  pub password : List ℕ
  pub host : WebHost
  pub port : Option ℕ
  pub path : List (List ℕ)
  pub query : Option (List ℕ)
  pub fragment : Option (List ℕ)

-- "special scheme": those with a default port
abbrev pub special_port : List ℕ → Option ℕ
special_port s =
    if bytes_eq s (codes "http") || bytes_eq s (codes "ws") then Some 80
    else if bytes_eq s (codes "https") || bytes_eq s (codes "wss") then Some 443
    else if bytes_eq s (codes "ftp") then Some 21
    else None

-- "percent-encode after encoding": these bytes become escapes
abbrev pub quoted : List ℕ → List ℕ → List ℕ
quoted bytes t = flat_map (λ b. if is_among bytes b then spell (escape_of b) else b ∷ []) t

-- ---- hosts

-- "forbidden domain code point"
abbrev pub is_forbidden : ℕ → Bool
is_forbidden b = nat_le b 32 || (is_among (codes "#/:<>?@[\\]^|%") b || b == 127)

-- the label begins with "xn--", in letters of either case
abbrev pub is_encoded_label : List ℕ → Bool
is_encoded_label l = bytes_eq (str_to_ascii_lowercase (take 4 l)) (codes "xn--")

abbrev pub has_encoded_label : List ℕ → Bool
has_encoded_label d = list_any is_encoded_label (slice_split is_dot d)

-- "domain to ASCII": Unicode's tables are needed for a byte that is not ASCII and for such a label, and else letters become lower case
abbrev pub to_ascii : (List ℕ → Option (List ℕ)) → List ℕ → Option (List ℕ)
to_ascii idna d = if list_any (nat_le 128) d || has_encoded_label d then idna d else Some (str_to_ascii_lowercase d)

abbrev pub number_in : ℕ → List ℕ → Option ℕ
number_in base t = if list_all (λ b. is_digit b base) t then Some (digits_value base t) else None

-- "IPv4 number parser": hexadecimal after "0x", octal after "0", else decimal
abbrev pub ipv4_number : List ℕ → Option ℕ
ipv4_number [] = None
ipv4_number (b ∷ []) = number_in 10 (b ∷ [])
ipv4_number (b ∷ c ∷ t) =
    if not (b == 48) then number_in 10 (b ∷ c ∷ t)
    else if is_among (codes "xX") c then number_in 16 t
    else number_in 8 (c ∷ t)

abbrev pub is_number : List ℕ → Bool
is_number [] = false
is_number (b ∷ t) = are_digits (b ∷ t) || is_some (ipv4_number (b ∷ t))

-- "ends in a number checker": the last label, apart from an empty one at the end
abbrev pub ends_in_number : List ℕ → Bool
ends_in_number d = is_number (last_label (labels d))

abbrev pub ipv4_numbers : List (List ℕ) → Option (List ℕ)
ipv4_numbers [] = Some []
ipv4_numbers (l ∷ ls) = option_and_then (λ n. option_map (λ ns. n ∷ ns) (ipv4_numbers ls)) (ipv4_number l)

-- the number of an address: its numbers are bytes, and the last one fills the bytes that are left
abbrev pub ipv4_value : ℕ → List ℕ → Option ℕ
ipv4_value left [] = None
ipv4_value left (n ∷ []) = if nat_lt n (256 ^ left) then Some n else None
ipv4_value left (n ∷ m ∷ ns) =
    if nat_lt n 256 then option_map (λ v. n * 256 ^ (left - 1) + v) (ipv4_value (left - 1) (m ∷ ns)) else None

-- "IPv4 parser"
abbrev pub web_ipv4 : List ℕ → Option ℕ
web_ipv4 d = if nat_le (length (labels d)) 4 then option_and_then (ipv4_value 4) (ipv4_numbers (labels d)) else None

-- the end of "host parser"
abbrev pub of_domain : List ℕ → Option WebHost
of_domain [] = None
of_domain (b ∷ d) =
    if list_any is_forbidden (b ∷ d) then None
    else if ends_in_number (b ∷ d) then option_map Ipv4 (web_ipv4 (b ∷ d))
    else Some (Domain (b ∷ d))

-- "host parser"; in brackets, "IPv6 parser" reads what RFC 3986 does
abbrev pub web_host : (List ℕ → Option (List ℕ)) → List ℕ → Option WebHost
web_host idna [] = None
web_host idna (b ∷ t) =
    if b == left_bracket then option_map Ipv6 (option_and_then ipv6_reading (in_brackets (b ∷ t)))
    else option_and_then of_domain (to_ascii idna (decoded (b ∷ t)))

-- ---- the states of "basic URL parser"

-- "special authority ignore slashes state": any number of slashes precedes the authority
abbrev pub without_slashes : List ℕ → List ℕ
without_slashes [] = []
without_slashes (b ∷ t) = if b == slash then without_slashes t else b ∷ t

abbrev pub is_at : ℕ → Bool
is_at b = b == at_sign

-- "authority state": the last "@" ends the user name and the password
abbrev pub credentials : List ℕ → List ℕ
credentials a = if list_any is_at a then up_to_last is_at a else []

abbrev pub after_credentials : List ℕ → List ℕ
after_credentials a = if list_any is_at a then drop 1 (from_last is_at a) else a

abbrev pub web_username : List ℕ → List ℕ
web_username a = quoted (codes ";=") (before colon (credentials a))

abbrev pub web_password : List ℕ → List ℕ
web_password a = quoted (codes ":;=") (unwrap_or (after colon (credentials a)) [])

-- "host state": the first ":" outside of brackets ends the host
abbrev pub is_inside : Bool → ℕ → Bool
is_inside inside b = if b == left_bracket then true else if b == right_bracket then false else inside

abbrev pub web_host_text : Bool → List ℕ → List ℕ
web_host_text inside [] = []
web_host_text inside (b ∷ t) = if b == colon && not inside then [] else b ∷ web_host_text (is_inside inside b) t

abbrev pub web_port_text : Bool → List ℕ → List ℕ
web_port_text inside [] = []
web_port_text inside (b ∷ t) = if b == colon && not inside then t else web_port_text (is_inside inside b) t

abbrev pub unless_default : ℕ → ℕ → Option ℕ
unless_default default n = if n == default then None else Some n

-- "port state": digits that write at most 65535, or nothing
abbrev pub web_port : ℕ → List ℕ → Option (Option ℕ)
web_port default t =
    if are_digits t && nat_le (digits_value 10 t) largest then Some (option_and_then (unless_default default) (value_of t)) else None

-- "path state", "query state" and "fragment state", on what follows the authority
abbrev pub url_of : List ℕ → List ℕ → List ℕ → WebHost → Option ℕ → WebUrl
url_of s a rest h n = record {
  scheme = s;
  username = web_username a;
  password = web_password a;
  host = h;
  port = n;
  path = replay [] (pieces (up_to ends_path rest));
  query = option_map (quoted (codes "'")) (after question_mark (before number_sign rest));
  fragment = after number_sign rest;
}

-- the authority is `a`, and `rest` follows it
abbrev pub web_authority : (List ℕ → Option (List ℕ)) → List ℕ → ℕ → List ℕ → List ℕ → Option WebUrl
web_authority idna s default a rest =
    option_and_then (λ h. option_map (url_of s a rest h) (web_port default (web_port_text false (after_credentials a))))
    (web_host idna (web_host_text false (after_credentials a)))

abbrev pub web_after : (List ℕ → Option (List ℕ)) → List ℕ → List ℕ → Option WebUrl
web_after idna s u = option_and_then (λ default. web_authority idna s default (up_to ends_authority u) (from_first ends_authority u)) (special_port s)

-- what the Standard reads in the string; nothing if it rejects it or the scheme is another one
abbrev pub web : (List ℕ → Option (List ℕ)) → List ℕ → Option WebUrl
web idna t = option_and_then (λ s. web_after idna (str_to_ascii_lowercase s) (without_slashes (after_scheme t))) (scheme_text t)

-- ---- agreement

-- the number that bytes write after another number
abbrev pub bytes_value : ℕ → List ℕ → ℕ
bytes_value n [] = n
bytes_value n (b ∷ bs) = bytes_value (n * 256 + b) bs

-- the host in the Standard's words
abbrev pub as_web : Host → Option WebHost
as_web (IPv4Address a) = Some (Ipv4 (bytes_value 0 a))
as_web (IPv6Address a) = Some (Ipv6 a)
as_web (IPvFuture f) = None
as_web (RegisteredName n) = Some (Domain (canonical_lowered n))

-- The two readings agree: on the scheme, on the bytes of user name and password, on the host, on the port in use, on the path without its dot
-- segments, and on the bytes of query and fragment.
pub record ReadsAlike (p : Parts) (u : WebUrl) : Type 0 where
  pub scheme : option_map scheme.canonical_text p.scheme ≡ Some u.scheme
  pub username : decoded (unwrap_or (username_of p) []) ≡ decoded u.username
  pub password : decoded (unwrap_or (password_of p) []) ≡ decoded u.password
  pub host : option_and_then as_web (host_of p) ≡ Some u.host
  pub port : port_or_default p ≡ option_or u.port (special_port u.scheme)
  pub path : (without_dots p.path).segments ≡ u.path
  pub query : option_map decoded p.query ≡ option_map decoded u.query
  pub fragment : option_map decoded p.fragment ≡ option_map decoded u.fragment

-- ---- words of examples: Unicode's tables reject

abbrev pub no_tables : List ℕ → Option (List ℕ)
no_tables d = None

abbrev pub web_host_of : List ℕ → Option WebHost
web_host_of t = option_map (λ (u : WebUrl). u.host) (web no_tables t)

abbrev pub web_path_of : List ℕ → Option (List (List ℕ))
web_path_of t = option_map (λ (u : WebUrl). u.path) (web no_tables t)
