-- Links that may be followed unasked.
use Rattle.std.specs.List.{Any}
use Rattle.std.specs.Option.{IsSomeAnd}
use Rattle.std.specs.Prelude.{◌≡◌, false, List, None, Some}
use Rattle.uriparse.specs.Disagreement as readers
use Rattle.uriparse.specs.HostValue.{Host}
use Rattle.uriparse.specs.HostWithin.{IsWithin}
use Rattle.uriparse.specs.Ports.{port_or_default}
use Rattle.uriparse.specs.Reference.{Parts, host_of}
use Rattle.uriparse.specs.Uri.{IsNamed, https}
use Rattle.uriparse.specs.Within as uris
use Rattle.examples.specs.Hosts.{is_deceptive}

-- The host is one of the domains or within one. If it is a name, no reader takes it for another host; so an address is one of the list.
abbrev pub IsTrustedHost : List Host → Host → Type 0
IsTrustedHost domains h = Any (IsWithin h) domains × (is_deceptive h ≡ false)

-- The scheme is `https`, no reader may read another URI, the host is trusted, and the port is that of `https`.
abbrev pub IsTrusted : List Host → Parts → Type 0
IsTrusted domains u =
    IsSomeAnd u.scheme (IsNamed https) × (readers.disagreement u ≡ None) × IsSomeAnd (host_of u) (IsTrustedHost domains)
    × (port_or_default u ≡ Some 443)

-- The link is trusted, and below the page.
abbrev pub IsTrustedBelow : List Host → Parts → Parts → Type 0
IsTrustedBelow domains page u = IsTrusted domains u × uris.IsWithin u page
