-- The string of a reference without what it need not show: its scheme's default port, and its password. RFC 3986, sections 6.2.3 and 7.5.
use Rattle.std.specs.Prelude.{ℕ, if◌then◌else◌, List, Option, Some, None, is_some}
use Rattle.std.specs.Option.{option_map}
use Rattle.uriparse_authority.specs.Authority.{with_empty}
use Rattle.uriparse_reference.specs.Change.{AuthorityStrings, strings, whole}
use Rattle.uriparse_reference.specs.Examples.{read}
use Rattle.uriparse_reference.specs.Masked.{stars}
use Rattle.uriparse_reference.specs.Ports.{has_default_port}
use Rattle.uriparse_reference.specs.Reference.{Parts, password_of}

-- the strings of an authority without its port
abbrev pub portless : AuthorityStrings → AuthorityStrings
portless a = record { username = a.username; password = a.password; host = a.host; port = None }

-- the same with stars in place of its password
abbrev pub starred : AuthorityStrings → AuthorityStrings
starred a = record { username = with_empty a.username (Some stars); password = Some stars; host = a.host; port = a.port }

-- the string with another authority
abbrev pub with_strings : (AuthorityStrings → AuthorityStrings) → List ℕ → List ℕ
with_strings f t = whole (record (strings t) { authority = option_map f (strings t).authority })

-- the string t of the reference p without its port, if that is the default port of its scheme
abbrev pub text_without_default_port : List ℕ → Parts → List ℕ
text_without_default_port t p = if has_default_port p then with_strings portless t else t

-- the same with stars in place of its password, if it has one
abbrev pub masked_text : List ℕ → Parts → List ℕ
masked_text t p = if is_some (password_of p) then with_strings starred t else t

-- ---- words of examples

-- what is written of a text, if it spells a reference
abbrev pub shown : (List ℕ → Parts → List ℕ) → List ℕ → Option (List ℕ)
shown f t = option_map (f t) (read t)
