-- What a proxy can be asked for: RFC 9112, section 3.2.2.
use Rattle.std.specs.Prelude.{◌≡◌, ◌⊎◌, ℕ, true, false, List, Some, None, IsSome, is_some}
use Rattle.std.specs.Option.{IsSomeAnd}
use Rattle.uriparse.specs.SchemeValue.{Scheme}
use Rattle.uriparse.specs.Host.{is_empty}
use Rattle.uriparse.specs.Reference.{Parts, Spells, host_of, username_of}
use Rattle.uriparse.specs.declared.uri.error.URIError.TheVariants as uris
use Rattle.uriparse.specs.Kinds.{fault_of}
use Rattle.uriparse.specs.Uri.{IsNamed, http, https, map_error}
use Rattle.uriparse.specs.PathError.TheVariants.{OutOfMemory}
use Rattle.uriparse.specs.Within.{IsWithin}
use Rattle.examples.specs.Hosts.{IsPlainName}
use Rattle.examples.specs.declared.proxy.ProxyError.{ProxyError}
use Rattle.examples.specs.declared.proxy.ProxyError.TheVariants as errors

abbrev pub IsWebScheme : Scheme → Type 0
IsWebScheme s = IsNamed http s ⊎ IsNamed https s

-- the URI has a host, which isn't empty
abbrev pub HasHost : Parts → Type 0
HasHost u = IsSomeAnd (host_of u) (λ h. is_empty h ≡ false)

-- A URI of the web with a host, and without a fragment.
pub record IsProxyTarget (u : Parts) : Type 0 where
  pub web : IsSomeAnd u.scheme IsWebScheme
  pub host : HasHost u
  pub no_fragment : u.fragment ≡ None

-- this is a reason for which the URI is no target
abbrev pub IsReason : Parts → ProxyError → Type 0
IsReason u (errors.Text e) = ⊥
IsReason u errors.Fragment = IsSome u.fragment
IsReason u errors.Scheme = IsSomeAnd u.scheme IsWebScheme → ⊥
IsReason u errors.Host = HasHost u → ⊥

-- why a text is rejected: it spells no URI, memory ran out, or it spells one that is no target
abbrev pub Refuses : List ℕ → ProxyError → Type 0
Refuses t (errors.Text e) = (fault_of true map_error uris.NotURI t ≡ Some e) ⊎ (e ≡ uris.Path OutOfMemory)
Refuses t e = (u : Parts) × Spells t u × IsReason u e

-- A request that may be forwarded: below the URI that is served, without user information, and to a name, which readers take for no other host.
pub record MayBeForwarded (served u : Parts) : Type 0 where
  pub below : IsWithin u served
  pub no_user : is_some (username_of u) ≡ false
  pub host : IsSomeAnd (host_of u) IsPlainName
