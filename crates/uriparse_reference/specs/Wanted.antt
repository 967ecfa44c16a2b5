-- What is wanted of the components of a reference.
use Rattle.std.specs.Prelude.{ℕ, List, Option, Some, None}
use Rattle.uriparse_reference.specs.declared.uri_reference.change.Change.{Change}
use Rattle.uriparse_reference.specs.declared.uri_reference.change.Change.TheVariants.{Keep, Remove, Set}

-- A component is kept without a wish; else it is to have this string, or to be absent.
abbrev pub Wish : Type 0
Wish = Option (Option (List ℕ))

abbrev pub wish : Change → Wish
wish Keep = None
wish Remove = Some None
wish (Set bytes) = Some (Some bytes.now)

-- a wish for each component
pub record Wanted : Type 0 where
  pub scheme : Wish
  pub username : Wish
  pub password : Wish
  pub host : Wish
  pub port : Wish
  pub path : Wish
  pub query : Wish
  pub fragment : Wish

-- each component is kept
abbrev pub unchanged : Wanted
unchanged = record { scheme = None; username = None; password = None; host = None; port = None; path = None; query = None; fragment = None }
