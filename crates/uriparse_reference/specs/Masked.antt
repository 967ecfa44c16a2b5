-- A reference as it may be shown: without its password. RFC 3986, section 7.5.
use Rattle.std.specs.Prelude.{ℕ, if◌then◌else◌, List, Some, codes, is_some}
use Rattle.std.specs.Option.{option_map}
use Rattle.uriparse_authority.specs.Authority.{AuthorityParts, with_password}
use Rattle.uriparse_reference.specs.Reference.{Parts}

-- what stands for a password
abbrev pub stars : List ℕ
stars = codes "***"

-- the authority with its password, if there is one, hidden
abbrev pub masked_authority : AuthorityParts → AuthorityParts
masked_authority a = if is_some a.password then with_password a (Some stars) else a

-- the same for the authority of a reference
abbrev pub masked : Parts → Parts
masked p = record p { authority = option_map masked_authority p.authority }
