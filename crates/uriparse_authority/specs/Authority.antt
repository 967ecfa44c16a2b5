-- Authorities: RFC 3986, section 3.2.
use Rattle.std.specs.Prelude.{◌≡◌, ℕ, Bool, ◌==◌, ◌&&◌, ◌||◌, List, [], ◌∷◌, ◌++◌, Option, Some, None, Result, Ok, Err, IfSome, IsSome, unwrap_or, bytes_eq}
use Rattle.std.specs.Prelude.{if◌then◌else◌}
use Rattle.std.specs.Option.{option_map, option_and_then, option_eq}
use Rattle.std.specs.Ordering.{on}
use Rattle.std.specs.Hash.{HashWrites, option, u16}
use Rattle.uriparse_text.specs.Bytes.{slash, colon, question_mark, number_sign, at_sign, right_bracket}
use Rattle.uriparse_text.specs.Canonical.{canonical, fed_text}
use Rattle.uriparse_text.specs.Cuts.{following, ahead, before, after, front, rest, up_to, from_first, from_last, up_to_last}
use Rattle.uriparse_text.specs.Readings.{◌>>=◌, of_piece, if_present, fault_in}
use Rattle.uriparse_authority.specs.Username as username
use Rattle.uriparse_authority.specs.Password as password
use Rattle.uriparse_authority.specs.Host as host
use Rattle.uriparse_authority.specs.Port as port
use Rattle.uriparse_authority.specs.declared.authority.host.Host.{Host}
use Rattle.uriparse_authority.specs.declared.authority.error.AuthorityError.{AuthorityError}
use Rattle.uriparse_authority.specs.declared.authority.error.AuthorityError.TheVariants as errors
use Rattle.uriparse_authority.specs.declared.authority.error.HostError.TheVariants as host_errors
use Rattle.uriparse_authority.specs.declared.authority.error.PortError.TheVariants as port_errors

-- the four parts, without where they lie in memory
pub record AuthorityParts : Type 0 where
  pub username : Option (List ℕ)
  pub password : Option (List ℕ)
  pub host : Host
  pub port : Option ℕ

-- an authority that has each part
abbrev pub whole_authority : List ℕ → List ℕ → Host → ℕ → AuthorityParts
whole_authority username password host port = record { username = Some username; password = Some password; host = host; port = Some port }

-- userinfo = username [ ":" password ]
abbrev pub userinfo : Option (List ℕ) → Option (List ℕ) → Option (List ℕ)
userinfo username password = option_map (λ t. t ++ following colon password) username

-- [ userinfo "@" ] host [ ":" port ]
abbrev pub joined : Option (List ℕ) → Option (List ℕ) → List ℕ → Option (List ℕ) → List ℕ
joined username password host port = ahead at_sign (userinfo username password) ++ (host ++ following colon port)

-- a password stands only with a user name
abbrev pub IsPaired : Option (List ℕ) → Option (List ℕ) → Type 0
IsPaired username password = IfSome password (λ _. IsSome username)

-- The text is made of these pieces, and each stands for its part. An empty port is none.
pub record Spells (a : List ℕ) (p : AuthorityParts) : Type 0 where
  pub host_text : List ℕ
  pub port_text : Option (List ℕ)
  pub whole : a ≡ joined p.username p.password host_text port_text
  pub is_username : IfSome p.username username.IsUsername
  pub is_password : IfSome p.password password.IsPassword
  pub paired : IsPaired p.username p.password
  pub is_host : host.Spells host_text p.host
  pub is_port : port.Spells (unwrap_or port_text []) p.port

-- each part is of its class
pub record Valid (p : AuthorityParts) : Type 0 where
  pub is_username : IfSome p.username username.IsUsername
  pub is_password : IfSome p.password password.IsPassword
  pub paired : IsPaired p.username p.password
  pub is_host : host.Valid p.host
  pub is_port : IfSome p.port port.IsPort

-- its printed text stands for it: so it is, unless its host's text stands for another host
abbrev pub ReadsBack : AuthorityParts → Type 0
ReadsBack p = host.ReadsBack p.host

-- the text of an authority
abbrev pub print : AuthorityParts → List ℕ
print p = joined p.username p.password (host.text p.host) (option_map port.text p.port)

-- its text with each part in canonical spelling
abbrev pub canonical_text : AuthorityParts → List ℕ
canonical_text p = joined (option_map canonical p.username) (option_map canonical p.password) (host.canonical_text p.host) (option_map port.text p.port)

abbrev pub kind : AuthorityParts → host.Kind
kind p = host.kind p.host

-- ---- the cuts of a text

-- The first "@" ends the user information, and the host and the port follow it.
abbrev pub userinfo_text : List ℕ → Option (List ℕ)
userinfo_text a = front at_sign a

abbrev pub host_and_port_text : List ℕ → List ℕ
host_and_port_text a = rest at_sign a

-- The first ":" in the user information starts the password.
abbrev pub username_in : Option (List ℕ) → Option (List ℕ)
username_in o = option_map (λ i. before colon i) o

abbrev pub password_in : Option (List ℕ) → Option (List ℕ)
password_in o = option_and_then (λ i. after colon i) o

abbrev pub username_text : List ℕ → Option (List ℕ)
username_text a = username_in (userinfo_text a)

abbrev pub password_text : List ℕ → Option (List ℕ)
password_text a = password_in (userinfo_text a)

-- The last ":" after that "@" and after any "]" starts the port.
abbrev pub ends_host : ℕ → Bool
ends_host b = b == colon || b == right_bracket

-- what follows the colon that a rest begins with, if it does
abbrev pub colon_part : List ℕ → Option (List ℕ)
colon_part [] = None
colon_part (b ∷ t) = if b == colon then Some t else None

abbrev pub cut_port : List ℕ → Option (List ℕ)
cut_port t = colon_part (from_last ends_host t)

abbrev pub cut_host : List ℕ → List ℕ
cut_host t = unwrap_or (option_map (λ _. up_to_last ends_host t) (cut_port t)) t

abbrev pub host_text : List ℕ → List ℕ
host_text a = cut_host (host_and_port_text a)

abbrev pub port_text : List ℕ → Option (List ℕ)
port_text a = cut_port (host_and_port_text a)

-- ---- reading

-- the result of reading a text: its components, or the fault of the first faulty one
unfoldable pub reading : List ℕ → Result AuthorityParts AuthorityError
reading a = do
  username ← of_piece errors.Username (if_present username.reading (username_text a))
  password ← of_piece errors.Password (if_present password.reading (password_text a))
  host ← of_piece errors.Host (host.reading (host_text a))
  port ← of_piece errors.Port (port.reading (unwrap_or (port_text a) []))
  Ok (record { username = username; password = password; host = host; port = port })

abbrev pub fault : List ℕ → Option AuthorityError
fault a = fault_in (reading a)

-- the result of reading user information, if there is any: a word of a private function's clause alone
abbrev pub userinfo_reading : Option (List ℕ) → Result (Option (List ℕ) × Option (List ℕ)) AuthorityError
userinfo_reading i = do
  username ← of_piece errors.Username (if_present username.reading (username_in i))
  password ← of_piece errors.Password (if_present password.reading (password_in i))
  Ok (username, password)

-- ---- an authority read by itself, from a text that may go on after it

-- "/", "?" and "#" end an authority
abbrev pub ends_authority : ℕ → Bool
ends_authority b = b == slash || (b == question_mark || b == number_sign)

-- the result of reading the authority that a text begins with: a word of a private function's clause alone
abbrev pub front_reading : List ℕ → Result AuthorityParts AuthorityError
front_reading u = reading (up_to ends_authority u)

-- the byte after the authority has no place in its last part: a port, or else the host
abbrev pub rest_error : Option ℕ → host.Kind → AuthorityError
rest_error (Some n) k = errors.Port port_errors.InvalidCharacter
rest_error None host.V6 = errors.Host host_errors.InvalidIPv6Character
rest_error None host.Future = errors.Host host_errors.InvalidIPvFutureCharacter
rest_error None host.V4 = errors.Host host_errors.InvalidIPv4OrRegisteredNameCharacter
rest_error None host.Name = errors.Host host_errors.InvalidIPv4OrRegisteredNameCharacter

-- the parts where nothing follows the authority, or else the error of that rest
abbrev pub unless_rest : List ℕ → AuthorityParts → Result AuthorityParts AuthorityError
unless_rest [] p = Ok p
unless_rest (b ∷ t) p = Err (rest_error p.port (kind p))

-- the result of reading a text by itself: the authority's own faults precede the fault of what follows it
abbrev pub whole_reading : List ℕ → Result AuthorityParts AuthorityError
whole_reading t = reading (up_to ends_authority t) >>= unless_rest (from_first ends_authority t)

-- ---- comparing

-- what authorities are compared by: the kind of the host, and then the canonical spelling
abbrev pub key : AuthorityParts → List ℕ
key p = host.kind_code (kind p) ∷ canonical_text p

-- Whether each part is spelled like the other's, and the hosts are of one kind: a word of a private function's clause alone.
abbrev pub each_alike : AuthorityParts → AuthorityParts → Bool
each_alike p q =
    option_eq (on canonical bytes_eq) p.username q.username
    && (option_eq (on canonical bytes_eq) p.password q.password
    && (bytes_eq (host.key p.host) (host.key q.host)
    && option_eq ◌==◌ p.port q.port))

-- what a hasher is fed: each part in turn
abbrev pub fed : AuthorityParts → HashWrites
fed p =
    option (λ t. fed_text (canonical t)) p.username
    ++ (option (λ t. fed_text (canonical t)) p.password
    ++ (host.fed p.host
    ++ option u16 p.port))

-- the same, from the key alone: for these pieces of the canonical text, with the code of the host's kind
abbrev pub fed_pieces : ℕ → Option (List ℕ) → Option (List ℕ) → List ℕ → Option (List ℕ) → HashWrites
fed_pieces code username password host_piece port_piece =
    option fed_text username
    ++ (option fed_text password
    ++ (host.fed_key (code ∷ host_piece)
    ++ option u16 (port.value_of (unwrap_or port_piece []))))

abbrev pub fed_key : List ℕ → HashWrites
fed_key [] = []
fed_key (code ∷ t) = fed_pieces code (username_text t) (password_text t) (host_text t) (port_text t)

-- ---- making and changing

-- a password brings an empty user name if there is none
abbrev pub with_empty : Option (List ℕ) → Option (List ℕ) → Option (List ℕ)
with_empty (Some u) w = Some u
with_empty None (Some w) = Some []
with_empty None None = None

-- the authority of these parts
abbrev pub of_parts : Option (List ℕ) → Option (List ℕ) → Host → Option ℕ → AuthorityParts
of_parts username password host port = record { username = with_empty username password; password = password; host = host; port = port }

abbrev pub with_host : AuthorityParts → Host → AuthorityParts
with_host p h = record { username = p.username; password = p.password; host = h; port = p.port }

abbrev pub with_port : AuthorityParts → Option ℕ → AuthorityParts
with_port p n = record { username = p.username; password = p.password; host = p.host; port = n }

-- a password stays only after a user name
abbrev pub password_after : Option (List ℕ) → Option (List ℕ) → Option (List ℕ)
password_after (Some u) w = w
password_after None w = None

abbrev pub with_username : AuthorityParts → Option (List ℕ) → AuthorityParts
with_username p u = record { username = u; password = password_after u p.password; host = p.host; port = p.port }

abbrev pub with_password : AuthorityParts → Option (List ℕ) → AuthorityParts
with_password p w = record { username = with_empty p.username w; password = w; host = p.host; port = p.port }
