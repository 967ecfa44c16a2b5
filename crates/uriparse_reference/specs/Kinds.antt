-- The kinds of references: RFC 3986, sections 4.1 to 4.3.
use Rattle.std.specs.Prelude.{Bool, not, ◌&&◌, is_some, is_none}
use Rattle.uriparse_reference.specs.Reference.{Parts}

-- A reference is a URI or a relative reference.
abbrev pub is_uri : Parts → Bool
is_uri p = is_some p.scheme

abbrev pub is_relative_reference : Parts → Bool
is_relative_reference p = is_none p.scheme

-- A relative reference begins with two slashes and an authority, with an absolute path, or with a relative path.
abbrev pub is_network_path_reference : Parts → Bool
is_network_path_reference p = is_relative_reference p && is_some p.authority

abbrev pub is_absolute_path_reference : Parts → Bool
is_absolute_path_reference p = is_relative_reference p && (is_none p.authority && p.path.absolute)

abbrev pub is_relative_path_reference : Parts → Bool
is_relative_path_reference p = is_relative_reference p && (is_none p.authority && not p.path.absolute)

-- absolute-URI
abbrev pub can_be_a_base : Parts → Bool
can_be_a_base p = is_uri p && is_none p.fragment
