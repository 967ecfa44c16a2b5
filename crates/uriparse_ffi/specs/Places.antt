-- Where the components of a text begin and end.
use Rattle.std.specs.Prelude.{◌≡◌, ℕ, ◌+◌, List, length, Option, Some, None, unwrap_or}
use Rattle.std.specs.Option.{option_map, option_and_then}
use Rattle.uriparse_text.specs.Bytes.{colon, at_sign, question_mark}
use Rattle.uriparse_text.specs.Cuts.{ahead, following}
use Rattle.uriparse_authority.specs.Authority.{AuthorityParts, userinfo_text, username_text, password_text, host_text, port_text, kind}
use Rattle.uriparse_authority.specs.Host.{kind_code}
use Rattle.uriparse_reference.specs.Reference.{Parts, Spells, after_slashes}
use Rattle.uriparse_ffi.specs.Spans.{span}
use Rattle.uriparse_ffi.specs.declared.places.InAuthority.{InAuthority}
use Rattle.uriparse_ffi.specs.declared.places.UriParts.{UriParts}

-- The components of an authority that begins there: [ username [ ":" password ] "@" ] host [ ":" port ].
pub record AreInAuthority (at : ℕ) (a : Option (List ℕ)) (o : InAuthority) : Type 0 where
  pub username : o.username ≡ span at (option_and_then username_text a)
  pub password : o.password ≡ span (o.username.end + 1) (option_and_then password_text a)
  pub host : o.host ≡ span (at + length (ahead at_sign (option_and_then userinfo_text a))) (option_map host_text a)
  pub port : o.port ≡ span (o.host.end + 1) (option_and_then port_text a)

-- The components are where the grammar's line puts them: [ scheme ":" ] [ "//" authority ] path [ "?" query ] [ "#" fragment ].
pub record ArePlaces (s a : Option (List ℕ)) (h : List ℕ) (q f : Option (List ℕ)) (o : UriParts) : Type 0 where
  pub scheme : o.scheme ≡ span 0 s
  pub authority : o.authority ≡ span (length (ahead colon s) + 2) a
  pub path : o.path ≡ span (length (ahead colon s) + length (after_slashes a)) (Some h)
  pub query : o.query ≡ span (o.path.end + 1) q
  pub fragment : o.fragment ≡ span (o.path.end + length (following question_mark q) + 1) f
  pub inner : AreInAuthority (length (ahead colon s) + 2) a (record { username = o.username; password = o.password; host = o.host; port = o.port })

-- the number of a host's kind: 0 for none, 1 for a name, 4 and 6 for addresses, 7 for an address of a later version
abbrev pub host_number : Option AuthorityParts → ℕ
host_number None = 0
host_number (Some a) = kind_code (kind a)

-- the port's number, or 0 if there is none
abbrev pub port_number : Option AuthorityParts → ℕ
port_number None = 0
port_number (Some a) = unwrap_or a.port 0

-- They are the places of the components that a text spells, with the number of the host's kind and the port's number.
abbrev pub ArePlacesOf : (t : List ℕ) (p : Parts) → Spells t p → UriParts → Type 0
ArePlacesOf t p s o =
    ArePlaces s.scheme_text s.authority_text s.path_text p.query p.fragment o × (o.host_kind ≡ host_number p.authority) × (o.port_number ≡ port_number p.authority)
