-- Setting one part of the authority of a reference: RFC 3986, section 3.2.
use Rattle.std.specs.Prelude.{ℕ, Bool, true, false, List, Option, Some, None, Result, Ok, Err, is_some}
use Rattle.std.specs.Option.{option_map}
use Rattle.uriparse_text.specs.Readings.{◌>>=◌}
use Rattle.uriparse_path.specs.Path.{made_absolute}
use Rattle.uriparse_authority.specs.Authority as authority
use Rattle.uriparse_authority.specs.Authority.{AuthorityParts}
use Rattle.uriparse_authority.specs.declared.authority.host.Host.{Host}
use Rattle.uriparse_reference.specs.declared.uri_reference.change.ChangeError.{ChangeError}
use Rattle.uriparse_reference.specs.declared.uri_reference.change.ChangeError.TheVariants.{MissingHost}
use Rattle.uriparse_reference.specs.Reference.{Parts}

-- the authority with this host, or one of this host alone
abbrev pub authority_of_host : Option AuthorityParts → Host → AuthorityParts
authority_of_host (Some a) h = authority.with_host a h
authority_of_host None h = authority.of_parts None None h None

-- the reference with this host
abbrev pub with_host : Parts → Host → Parts
with_host p h = record p { authority = Some (authority_of_host p.authority h); path = made_absolute p.path }

-- What becomes of an authority. Where there is none, a part that is set has no host beside it.
abbrev pub beside : Option AuthorityParts → Bool → (AuthorityParts → AuthorityParts) → Result (Option AuthorityParts) ChangeError
beside (Some a) sets part = Ok (Some (part a))
beside None true part = Err MissingHost
beside None false part = Ok None

-- the same of a reference
abbrev pub beside_host : Parts → Bool → (AuthorityParts → AuthorityParts) → Result Parts ChangeError
beside_host p sets part = beside p.authority sets part >>= (λ a. Ok (record p { authority = a }))

-- the reference with this user name, password or port, or the error that there is no host beside which it may stand
abbrev pub with_username : Parts → Option (List ℕ) → Result Parts ChangeError
with_username p u = beside_host p (is_some u) (λ a. authority.with_username a u)

abbrev pub with_password : Parts → Option (List ℕ) → Result Parts ChangeError
with_password p w = beside_host p (is_some w) (λ a. authority.with_password a w)

abbrev pub with_port : Parts → Option ℕ → Result Parts ChangeError
with_port p n = beside_host p (is_some n) (λ a. authority.with_port a n)

-- the reference without a user name and without a password
abbrev pub without_userinfo : Parts → Parts
without_userinfo p = record p { authority = option_map (λ a. authority.with_username a None) p.authority }
