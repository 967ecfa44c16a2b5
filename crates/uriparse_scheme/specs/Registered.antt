-- The name and the status of a registered scheme: RFC 3986, section 3.1.
use Rattle.std.specs.Prelude.{ℕ, List, map, Option, bytes_eq}
use Rattle.std.specs.List.{find}
use Rattle.uriparse_scheme.specs.declared.scheme.registered.RegisteredScheme.{RegisteredScheme}
use Rattle.uriparse_scheme.specs.declared.scheme.status.SchemeStatus.{SchemeStatus}
use Rattle.uriparse_scheme.specs.SchemeTable.{row_of, variants}

-- the name in the scheme's row
abbrev pub name_of : RegisteredScheme → List ℕ
name_of s = (row_of s).name

-- the status in the scheme's row
abbrev pub status_of : RegisteredScheme → SchemeStatus
status_of s = (row_of s).status

-- the names, in the table's order
abbrev pub names : List (List ℕ)
names = map name_of variants

-- the registered scheme with this name
abbrev pub registered_named : List ℕ → Option RegisteredScheme
registered_named name = find (λ s. bytes_eq (name_of s) name) variants
