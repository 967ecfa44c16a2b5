-- Origins of URIs: RFC 6454, sections 4 to 6.
use Rattle.std.specs.Prelude.{ℕ, Bool, false, ◌==◌, if◌then◌else◌, List, ◌++◌, Option, Some, None, bytes_eq, codes}
use Rattle.std.specs.Hash.{HashWrites, u16}
use Rattle.std.specs.Option.{option_and_then, option_eq, option_map}
use Rattle.std.specs.Ordering.{eq_of_both, on}
use Rattle.uriparse_text.specs.Bytes.{colon}
use Rattle.uriparse_text.specs.Canonical.{fed_text}
use Rattle.uriparse_text.specs.Cuts.{following}
use Rattle.uriparse_scheme.specs.DefaultPort.{default_port}
use Rattle.uriparse_scheme.specs.Scheme as scheme
use Rattle.uriparse_authority.specs.Host as host
use Rattle.uriparse_authority.specs.Port as port
use Rattle.uriparse_authority.specs.declared.authority.host.Host.{Host}
use Rattle.uriparse_reference.specs.Reference.{Parts, host_of}
use Rattle.uriparse_reference.specs.Examples.{on_both, read}
use Rattle.uriparse_reference.specs.Ports.{port_or_default}
use Rattle.uriparse.specs.declared.uri.origin.Origin.{Origin}

-- The host, unless it is empty.
abbrev pub if_named : Host → Option Host
if_named h = if host.is_empty h then None else Some h

abbrev pub named_host : Parts → Option Host
named_host p = option_and_then if_named (host_of p)

-- The scheme, the host, and the port or the scheme's default port. Without one of them, or with an empty host, there is no origin
-- that another URI could have. RFC 9110, section 4.2.1, rejects `http` and `https` URIs with an empty host.
abbrev pub origin : Parts → Option Origin
origin p =
    option_and_then (λ scheme. option_and_then (λ host. option_map (λ port. record { scheme = scheme; host = host; port = port }) (port_or_default p)) (named_host p)) p.scheme

-- ---- comparing

-- the schemes are equal, and the hosts, and the ports
abbrev pub are_alike : Origin → Origin → Bool
are_alike =
    eq_of_both (on (λ (o : Origin). scheme.canonical_text o.scheme) bytes_eq)
    (eq_of_both (on (λ (o : Origin). host.key o.host) bytes_eq) (on (λ (o : Origin). o.port) ◌==◌))

-- what a hasher is fed: the scheme, the host and the port in turn
abbrev pub fed : Origin → HashWrites
fed o = fed_text (scheme.canonical_text o.scheme) ++ (host.fed_key (host.key o.host) ++ u16 o.port)

-- both are there, and they are alike
abbrev pub are_both : Option Origin → Option Origin → Bool
are_both (Some a) (Some b) = are_alike a b
are_both (Some a) None = false
are_both None o = false

-- both have an origin, and it is one
abbrev pub have_same_origin : Parts → Parts → Bool
have_same_origin p q = are_both (origin p) (origin q)

-- ---- printing

-- the port, unless it is the scheme's default port
abbrev pub named_port : Origin → Option ℕ
named_port o = if option_eq ◌==◌ (Some o.port) (default_port o.scheme) then None else Some o.port

-- scheme "://" host [ ":" port ], in canonical spelling
abbrev pub text : Origin → List ℕ
text o = scheme.canonical_text o.scheme ++ (codes "://" ++ (host.canonical_text o.host ++ following colon (option_map port.text (named_port o))))

-- ---- the same of texts, if they spell references: words of examples

abbrev pub printed_origin : List ℕ → Option (List ℕ)
printed_origin t = option_map (λ o. text o) (option_and_then origin (read t))

abbrev pub share_origin : List ℕ → List ℕ → Option Bool
share_origin t u = on_both (λ p q. Some (have_same_origin p q)) t u
