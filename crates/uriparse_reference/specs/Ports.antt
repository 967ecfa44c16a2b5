-- The port that a reference names or its scheme implies: RFC 3986, sections 3.2.3 and 6.2.3.
use Rattle.std.specs.Prelude.{ℕ, Bool, ◌==◌, ◌&&◌, if◌then◌else◌, Option, None, is_some}
use Rattle.std.specs.Option.{option_map, option_and_then, option_or, option_eq}
use Rattle.uriparse_scheme.specs.DefaultPort.{default_port}
use Rattle.uriparse_authority.specs.Authority.{AuthorityParts, with_port}
use Rattle.uriparse_reference.specs.Reference.{Parts, port_of}

-- the default port of its scheme, if it has a scheme and that has one
abbrev pub default_port_of : Parts → Option ℕ
default_port_of p = option_and_then default_port p.scheme

-- the port of its authority, or else the default one; without an authority there is none
abbrev pub port_or_default : Parts → Option ℕ
port_or_default p = option_and_then (λ (a : AuthorityParts). option_or a.port (default_port_of p)) p.authority

-- its port is the default one
abbrev pub has_default_port : Parts → Bool
has_default_port p = is_some (port_of p) && option_eq ◌==◌ (port_of p) (default_port_of p)

-- without a port that is the default one
abbrev pub without_default_port : Parts → Parts
without_default_port p =
    if has_default_port p then record p { authority = option_map (λ a. with_port a None) p.authority } else p
