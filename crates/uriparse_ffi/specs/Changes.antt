-- What a caller in C wants of the components of a reference, and what the call leaves in the buffer.
use Rattle.std.specs.Prelude.{ℕ, Bool, ◌==◌, ◌&&◌, ◌||◌, ◌-◌, nat_le, if◌then◌else◌, List, length, take, drop, Some, None, Result, Ok, Err}
use Rattle.uriparse_reference.specs.Wanted.{Wanted, Wish}
use Rattle.uriparse_reference.specs.View.{Viewed}
use Rattle.uriparse_reference.specs.declared.uri_reference.change.ChangeError.{ChangeError}
use Rattle.uriparse_reference.specs.declared.uri_reference.change.ChangeError.TheVariants as errors
use Rattle.uriparse_ffi.specs.declared.changes.UriValue.{UriValue}
use Rattle.uriparse_ffi.specs.declared.changes.UriChanges.{UriChanges}
use Rattle.uriparse_ffi.specs.Code.{accepted, code_of, missing_host, no_room, out_of_memory}
use Rattle.uriparse_ffi.specs.Put.{IsPut, IsRefused}

-- 0 keeps a component, 1 sets it to these bytes of the values, and 2 removes it.
abbrev pub wish_at : List ℕ → UriValue → Wish
wish_at values s =
    if s.action == 1 then Some (Some (take (s.end - s.begin) (drop s.begin values)))
    else if s.action == 2 then Some None
    else None

-- It is one of these numbers, and bytes that are wanted are among the values.
abbrev pub is_wish : List ℕ → UriValue → Bool
is_wish values s = s.action == 0 || (s.action == 2 || (s.action == 1 && (nat_le s.begin s.end && nat_le s.end (length values))))

abbrev pub are_wishes : List ℕ → UriChanges → Bool
are_wishes values c =
    is_wish values c.scheme && (is_wish values c.username && (is_wish values c.password && (is_wish values c.host && (is_wish values c.port
    && (is_wish values c.path && (is_wish values c.query && is_wish values c.fragment))))))

abbrev pub wanted_in : List ℕ → UriChanges → Wanted
wanted_in values c = record {
  scheme = wish_at values c.scheme;
  username = wish_at values c.username;
  password = wish_at values c.password;
  host = wish_at values c.host;
  port = wish_at values c.port;
  path = wish_at values c.path;
  query = wish_at values c.query;
  fragment = wish_at values c.fragment;
}

-- ---- words of private functions' clauses

-- what a call leaves and returns, by the string that was made or why none was
abbrev pub IsChanged : Result Viewed ChangeError → List ℕ → List ℕ → ℕ → ℕ → Type 0
IsChanged (Ok v) old new needed code = IsPut v.text old new needed code
IsChanged (Err errors.MissingHost) old new needed code = IsRefused missing_host old new needed code
IsChanged (Err (errors.Reference e)) old new needed code = IsRefused (code_of e) old new needed code
IsChanged (Err (errors.TooSmall n)) old new needed code = Unit {0}
IsChanged (Err errors.OutOfMemory) old new needed code = Unit {0}

-- the code of a string that was written to a buffer, or was not
abbrev pub changed_code : Result ℕ ChangeError → ℕ
changed_code (Ok n) = accepted
changed_code (Err errors.MissingHost) = missing_host
changed_code (Err (errors.Reference e)) = code_of e
changed_code (Err (errors.TooSmall n)) = no_room
changed_code (Err errors.OutOfMemory) = out_of_memory

-- the length that is reported for it
abbrev pub changed_needed : Result ℕ ChangeError → ℕ
changed_needed (Ok n) = n
changed_needed (Err errors.MissingHost) = 0
changed_needed (Err (errors.Reference e)) = 0
changed_needed (Err (errors.TooSmall n)) = n
changed_needed (Err errors.OutOfMemory) = 0
