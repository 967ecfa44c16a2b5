-- Where the fault of an authority is: RFC 3986, section 3.2.
use Rattle.std.specs.Prelude.{◌≡◌, ◌↔◌, ℕ, Bool, true, false, not, ◌+◌, List, [], ◌++◌, length, Some, slice_get, unwrap_or}
use Rattle.std.specs.List.{position_or_len}
use Rattle.uriparse_text.specs.declared.internal.class.Class.TheVariants as class
use Rattle.uriparse_text.specs.Address.{is_ipv6_byte}
use Rattle.uriparse_text.specs.Bytes.{at_sign, left_bracket, percent}
use Rattle.uriparse_text.specs.Classes.{is_plain}
use Rattle.uriparse_text.specs.Cuts.{ahead}
use Rattle.uriparse_text.specs.Offset as text
use Rattle.uriparse_text.specs.Offset.{offset_after}
use Rattle.uriparse_authority.specs.declared.authority.error.AuthorityError.{AuthorityError}
use Rattle.uriparse_authority.specs.declared.authority.error.AuthorityError.TheVariants as errors
use Rattle.uriparse_authority.specs.declared.authority.error.HostError.{HostError}
use Rattle.uriparse_authority.specs.declared.authority.error.HostError.TheVariants as host
use Rattle.uriparse_authority.specs.declared.authority.error.PortError.{PortError}
use Rattle.uriparse_authority.specs.declared.authority.error.PortError.TheVariants as port
use Rattle.uriparse_authority.specs.Authority.{fault, userinfo_text, username_text, password_text, host_text, port_text}
use Rattle.uriparse_authority.specs.Future.{is_future_byte}
use Rattle.uriparse_authority.specs.Host.{in_brackets}
use Rattle.uriparse_authority.specs.Password as password
use Rattle.uriparse_authority.specs.Port.{is_other}
use Rattle.uriparse_authority.specs.Username as username

-- the place of the first byte between brackets that doesn't pass
abbrev pub literal_offset : (ℕ → Bool) → List ℕ → ℕ
literal_offset passes t = offset_after 1 (position_or_len (λ b. not (passes b))) (in_brackets t)

-- The place of this error in the text of a host: of a byte its own, of a wrong form the beginning.
abbrev pub host_offset : HostError → List ℕ → ℕ
host_offset host.InvalidIPv4OrRegisteredNameCharacter t = text.fault_offset class.Name t
host_offset host.InvalidIPv6Character t = literal_offset is_ipv6_byte t
host_offset host.InvalidIPv6Format t = 0
host_offset host.InvalidIPvFutureCharacter t = literal_offset is_future_byte t
host_offset host.InvalidIPvFutureFormat t = 0
host_offset host.AddressMechanismNotSupported t = 0

-- The place of this error in the text of a port: of a byte its own, of too large a number the beginning.
abbrev pub port_offset : PortError → List ℕ → ℕ
port_offset port.InvalidCharacter t = position_or_len is_other t
port_offset port.Overflow t = 0

-- The place of this error in the text of an authority: that in the component, after what precedes it.
abbrev pub fault_offset : AuthorityError → List ℕ → ℕ
fault_offset (errors.Username e) a = offset_after 0 (text.fault_offset class.Name) (username_text a)
fault_offset (errors.Password e) a = length (unwrap_or (username_text a) []) + offset_after 1 (text.fault_offset class.UserInfo) (password_text a)
fault_offset (errors.Host e) a = length (ahead at_sign (userinfo_text a)) + host_offset e (host_text a)
fault_offset (errors.Port e) a = length (ahead at_sign (userinfo_text a) ++ host_text a) + offset_after 1 (port_offset e) (port_text a)

-- ---- the byte at the place

-- If this is the fault of the text, the byte at its place is a `%` exactly if P holds.
abbrev pub IsAtPercentIff : List ℕ → AuthorityError → Type 0 → Type 0
IsAtPercentIff a e P = fault a ≡ Some e → P ↔ (slice_get a (fault_offset e a) ≡ Some percent)

-- A byte at which this error of a host may be: one that may not stand there, or the bracket before an address of a wrong form.
abbrev pub IsHostByte : HostError → ℕ → Type 0
IsHostByte host.InvalidIPv4OrRegisteredNameCharacter b = is_plain class.Name b ≡ false
IsHostByte host.InvalidIPv6Character b = is_ipv6_byte b ≡ false
IsHostByte host.InvalidIPv6Format b = b ≡ left_bracket
IsHostByte host.InvalidIPvFutureCharacter b = is_future_byte b ≡ false
IsHostByte host.InvalidIPvFutureFormat b = b ≡ left_bracket
IsHostByte host.AddressMechanismNotSupported b = ⊥

-- the same of a port: a byte that is no digit, or the first digit of too large a number
abbrev pub IsPortByte : PortError → ℕ → Type 0
IsPortByte port.InvalidCharacter b = is_other b ≡ true
IsPortByte port.Overflow b = is_other b ≡ false

-- the same of an authority
abbrev pub IsWrongByte : AuthorityError → ℕ → Type 0
IsWrongByte (errors.Username e) b = username.error_of b ≡ e
IsWrongByte (errors.Password e) b = password.error_of b ≡ e
IsWrongByte (errors.Host e) b = IsHostByte e b
IsWrongByte (errors.Port e) b = IsPortByte e b
