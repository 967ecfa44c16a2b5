-- JSON texts (RFC 8259), and a reference as a JSON object.
use Rattle.std.specs.Prelude.{ℕ, ◌/◌, ◌%◌, Bool, ◌||◌, ◌==◌, nat_lt, not, if◌then◌else◌, List, [], ◌∷◌, ◌++◌, map, Option, Some, None, Result, Ok, codes, decimal}
use Rattle.std.specs.Char.{digit_char}
use Rattle.std.specs.List.{flat_map, join_with_byte}
use Rattle.std.specs.Option.{option_map}
use Rattle.uriparse.specs.Bytes.{colon}
use Rattle.uriparse.specs.HostValue.{Host}
use Rattle.uriparse.specs.Host as host
use Rattle.uriparse.specs.Host.{Kind}
use Rattle.uriparse.specs.Path as path
use Rattle.uriparse.specs.Scheme as scheme
use Rattle.uriparse.specs.Reading.{reading}
use Rattle.uriparse.specs.Readings.{◌>>=◌}
use Rattle.uriparse.specs.Reference.{Parts, host_of, password_of, port_of, username_of}
use Rattle.uriparse.specs.URIReferenceError.{URIReferenceError}
use Rattle.uri_commands.specs.declared.json.Name.{Name}
use Rattle.uri_commands.specs.declared.json.Name.TheVariants as names

abbrev pub quote : ℕ
quote = 34

abbrev pub backslash : ℕ
backslash = 92

abbrev pub comma : ℕ
comma = 44

-- ---- strings: section 7

-- a quote or a backslash
abbrev pub is_special : ℕ → Bool
is_special b = b == quote || b == backslash

-- a control character
abbrev pub is_control : ℕ → Bool
is_control b = nat_lt b 32

-- a byte that a string has as it is
abbrev pub needs_no_json_escape : ℕ → Bool
needs_no_json_escape b = not (is_control b || is_special b)

-- what a byte of a text is written as: after a backslash a quote or a backslash, or `u` and the four digits of a control character
abbrev pub escaped_byte : ℕ → List ℕ
escaped_byte b =
    if is_control b then backslash ∷ (codes "u00" ++ digit_char (b / 16) ∷ digit_char (b % 16) ∷ [])
    else if is_special b then backslash ∷ b ∷ []
    else b ∷ []

-- what a text is written as
abbrev pub escaped : List ℕ → List ℕ
escaped text = flat_map escaped_byte text

-- the text between quotes
abbrev pub string : List ℕ → List ℕ
string text = quote ∷ (escaped text ++ quote ∷ [])

-- ---- values: sections 3, 5 and 6

-- a value that a member may have; an array is one of strings
pub data Value : Type 0 where
  Null : Value
  Number : ℕ → Value
  String : List ℕ → Value
  Strings : List (List ℕ) → Value

abbrev pub value_text : Value → List ℕ
value_text Null = codes "null"
value_text (Number n) = decimal n
value_text (String text) = string text
value_text (Strings texts) = codes "[" ++ (join_with_byte comma (map string texts) ++ codes "]")

-- a string, or `null` for a text that is absent
abbrev pub string_or_null : Option (List ℕ) → Value
string_or_null None = Null
string_or_null (Some text) = String text

-- a number, or `null` for one that is absent
abbrev pub number_or_null : Option ℕ → Value
number_or_null None = Null
number_or_null (Some n) = Number n

-- ---- objects: section 4

-- a name and a value
pub record Member : Type 0 where
  pub name : List ℕ
  pub value : Value

abbrev pub member : List ℕ → Value → Member
member name value = record { name = name; value = value }

-- the name as a string, a colon, and the value
abbrev pub member_text : Member → List ℕ
member_text m = string m.name ++ (colon ∷ value_text m.value)

-- the members between braces, with commas between them
abbrev pub object_text : List Member → List ℕ
object_text members = codes "{" ++ (join_with_byte comma (map member_text members) ++ codes "}")

-- members that follow others, each after a comma
abbrev pub followers : List Member → List ℕ
followers members = flat_map (λ m. comma ∷ member_text m) members

-- what precedes the text of a string that is a follower's value
abbrev pub opening : List ℕ → List ℕ
opening name = comma ∷ (string name ++ colon ∷ quote ∷ [])

-- ---- a reference as an object

-- the names of the members that are a string or absent
abbrev pub name_of : Name → List ℕ
name_of names.Scheme = codes "scheme"
name_of names.Username = codes "username"
name_of names.Password = codes "password"
name_of names.Path = codes "path"
name_of names.Query = codes "query"
name_of names.Fragment = codes "fragment"

-- what a host of this kind is called
abbrev pub kind_name : Kind → List ℕ
kind_name host.V4 = codes "ipv4"
kind_name host.V6 = codes "ipv6"
kind_name host.Future = codes "ipvfuture"
kind_name host.Name = codes "name"

-- the scheme and the user information
abbrev pub scheme_and_userinfo_members : Parts → List Member
scheme_and_userinfo_members p =
    member (codes "scheme") (string_or_null (option_map scheme.text p.scheme))
    ∷ member (codes "username") (string_or_null (username_of p))
    ∷ member (codes "password") (string_or_null (password_of p))
    ∷ []

-- the host's text, and its kind
abbrev pub host_members : Option Host → List Member
host_members h =
    member (codes "host") (string_or_null (option_map host.text h))
    ∷ member (codes "host_kind") (string_or_null (option_map (λ g. kind_name (host.kind g)) h))
    ∷ []

abbrev pub port_members : Option ℕ → List Member
port_members n = member (codes "port") (number_or_null n) ∷ []

-- the path's text, the query and the fragment
abbrev pub back_members : Parts → List Member
back_members p =
    member (codes "path") (String (path.text p.path))
    ∷ member (codes "query") (string_or_null p.query)
    ∷ member (codes "fragment") (string_or_null p.fragment)
    ∷ []

-- the path's segments
abbrev pub segment_members : List (List ℕ) → List Member
segment_members segments = member (codes "segments") (Strings segments) ∷ []

-- the members of the object of a reference that was read from this text, in their order
abbrev pub members : List ℕ → Parts → List Member
members text p =
    member (codes "text") (String text)
    ∷ (scheme_and_userinfo_members p ++ (host_members (host_of p) ++ (port_members (port_of p) ++ (back_members p ++ segment_members p.path.segments))))

-- the object
abbrev pub object : List ℕ → Parts → List ℕ
object text p = object_text (members text p)

-- the object of the reference that a text spells, or the text's fault
abbrev pub object_of : List ℕ → Result (List ℕ) URIReferenceError
object_of text = do
  p ← reading text
  Ok (object text p)
