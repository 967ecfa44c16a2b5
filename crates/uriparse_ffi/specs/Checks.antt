-- What the calls that check two references, or a host, report.
use Rattle.std.specs.Prelude.{◌≡◌, ℕ, Bool, true, false, ◌+◌, ℤ, pos, negsuc, Option, Some, None, Result, Ok, Err}
use Rattle.std.specs.declared.cmp.Ordering.{Ordering}
use Rattle.std.specs.declared.cmp.Ordering.TheVariants.{Less, Equal, Greater}
use Rattle.uriparse_scheme.specs.DefaultPort.{default_port}
use Rattle.uriparse_scheme.specs.declared.scheme.Scheme.{Scheme}
use Rattle.uriparse_scheme.specs.declared.scheme.error.SchemeError.{SchemeError}
use Rattle.uriparse_authority.specs.Public.{IsPublic}
use Rattle.uriparse_authority.specs.Within as host
use Rattle.uriparse_authority.specs.declared.authority.host.Host.{Host}
use Rattle.uriparse_reference.specs.Reference.{Parts, host_of}

-- The byte is 1 if this holds, and 0 if it doesn't.
abbrev pub Tells : Type 0 → ℕ → Type 0
Tells P n = (P → n ≡ 1) × ((P → ⊥) → n ≡ 0)

-- an order as a number
abbrev pub order_number : Ordering → ℤ
order_number Less = negsuc 0
order_number Equal = pos 0
order_number Greater = pos 1

-- the reference has a host, and it is the domain or within it
abbrev pub IsHostWithin : Parts → Host → Type 0
IsHostWithin p d = (h : Host) × (host_of p ≡ Some h) × host.IsWithin h d

-- the reference has a host, and it is public
abbrev pub IsPublicHost : Parts → Type 0
IsPublicHost p = (h : Host) × (host_of p ≡ Some h) × IsPublic h

-- this number if it holds
abbrev pub flag : ℕ → Bool → ℕ
flag n true = n
flag n false = 0

-- 1 for a name that hides an IPv4 address, 2 for one that may be taken for a number, and 4 for one that has escapes
abbrev pub host_flags : Option Host → ℕ
host_flags None = 0
host_flags (Some h) = flag 1 (host.hides_address h) + flag 2 (host.may_be_numeric h) + flag 4 (host.has_escapes h)

-- the number of a port, or 0 if there is none
abbrev pub port_number : Option ℕ → ℕ
port_number None = 0
port_number (Some n) = n

-- the same, or -1 if there is none
abbrev pub port_or_minus_one : Option ℕ → ℤ
port_or_minus_one None = negsuc 0
port_or_minus_one (Some n) = pos n

-- the default port of a scheme, or 0 for a scheme without one and for what is no scheme
abbrev pub default_port_of : Result Scheme SchemeError → ℕ
default_port_of (Ok s) = port_number (default_port s)
default_port_of (Err e) = 0
