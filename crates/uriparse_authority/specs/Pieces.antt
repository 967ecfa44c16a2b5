-- Components of an authority, each in a string of its own.
use Rattle.std.specs.Prelude.{ℕ, List, [], Option, Result, Ok, unwrap_or}
use Rattle.uriparse_text.specs.Readings.{◌>>=◌, of_piece, if_present}
use Rattle.uriparse_authority.specs.Username as username
use Rattle.uriparse_authority.specs.Password as password
use Rattle.uriparse_authority.specs.Host as host
use Rattle.uriparse_authority.specs.Port as port
use Rattle.uriparse_authority.specs.Authority.{AuthorityParts}
use Rattle.uriparse_authority.specs.declared.authority.error.AuthorityError.{AuthorityError}
use Rattle.uriparse_authority.specs.declared.authority.error.AuthorityError.TheVariants as errors

-- the components that these strings spell, or the fault of the first faulty one
abbrev pub pieces_reading : Option (List ℕ) → Option (List ℕ) → List ℕ → Option (List ℕ) → Result AuthorityParts AuthorityError
pieces_reading username_text password_text host_text port_text = do
  username ← of_piece errors.Username (if_present username.reading username_text)
  password ← of_piece errors.Password (if_present password.reading password_text)
  host ← of_piece errors.Host (host.reading host_text)
  port ← of_piece errors.Port (port.reading (unwrap_or port_text []))
  Ok (record { username = username; password = password; host = host; port = port })
