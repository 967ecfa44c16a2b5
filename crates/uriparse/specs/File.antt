-- File URIs and the paths that they name: RFC 8089, sections 2 and 3.
use Rattle.std.specs.Prelude.{◌≡◌, ℕ, Bool, true, false, ◌==◌, ◌||◌, not, if◌then◌else◌, List, [], ◌∷◌, map, flat_map, Option, Some, None, Result, bytes_eq, codes, is_some, length}
use Rattle.std.specs.List.{list_all, list_any, slice_split}
use Rattle.std.specs.Option.{option_map, option_or}
use Rattle.std.specs.Str.{str_to_ascii_lowercase}
use Rattle.uriparse_text.specs.declared.internal.class.Class.TheVariants as class
use Rattle.uriparse_text.specs.Bytes.{slash}
use Rattle.uriparse_text.specs.Canonical.{canonical_lowered}
use Rattle.uriparse_text.specs.Coding.{decoded, encoded}
use Rattle.uriparse_text.specs.Readings.{unless_fault}
use Rattle.uriparse_scheme.specs.declared.scheme.Scheme.{Scheme}
use Rattle.uriparse_scheme.specs.declared.scheme.Scheme.TheVariants.{Registered}
use Rattle.uriparse_scheme.specs.declared.scheme.registered.RegisteredScheme.TheVariants.{File}
use Rattle.uriparse_scheme.specs.Scheme as scheme
use Rattle.uriparse_authority.specs.declared.authority.host.Host.{Host}
use Rattle.uriparse_authority.specs.declared.authority.host.Host.TheVariants.{IPv4Address, IPv6Address, IPvFuture, RegisteredName}
use Rattle.uriparse_authority.specs.Authority.{AuthorityParts}
use Rattle.uriparse_path.specs.Path.{is_rooted, is_slash, max_segments, pieces}
use Rattle.uriparse_text.specs.Segment.{is_segment}
use Rattle.uriparse_path.specs.Faults.{length_fault}
use Rattle.uriparse_reference.specs.Reference.{Parts, host_of, port_of, username_of}
use Rattle.uriparse_reference.specs.Examples.{read}
use Rattle.uriparse.specs.declared.file.error.FileError.{FileError}
use Rattle.uriparse.specs.declared.file.error.FileError.TheVariants as errors

-- ---- from a path to its URI

-- no file has this byte in its path
abbrev pub is_nul : ℕ → Bool
is_nul b = b == 0

-- why the bytes are not the path of a file
abbrev pub bytes_fault : List ℕ → Option FileError
bytes_fault path =
    if not (is_rooted path) then Some errors.NotAbsolute else if list_any is_nul path then Some errors.ContainsNul else None

-- why a path has no URI: it is none of a file, or has more pieces than a URI's path may have
abbrev pub path_fault : List ℕ → Option FileError
path_fault path = option_or (bytes_fault path) (option_map errors.Path (length_fault max_segments (length (pieces path))))

-- no user name, the empty host and no port
abbrev pub no_host : AuthorityParts
no_host = record { username = None; password = None; host = RegisteredName []; port = None }

-- "file://" and these segments, each after a slash
abbrev pub local_uri : List (List ℕ) → Parts
local_uri segments = record {
  scheme = Some (Registered File);
  authority = Some no_host;
  path = record { absolute = true; segments = segments };
  query = None;
  fragment = None;
}

-- the pieces of a path, each encoded as a segment
abbrev pub encoded_pieces : List (List ℕ) → List (List ℕ)
encoded_pieces ps = map (encoded class.Segment) ps

-- "file://" and the path, each piece between its slashes encoded as a segment
abbrev pub file_uri : List ℕ → Parts
file_uri path = local_uri (encoded_pieces (pieces path))

-- the URI of the path, or why it has none
abbrev pub uri_of_path : List ℕ → Result Parts FileError
uri_of_path path = unless_fault (path_fault path) (file_uri path)

-- the bytes that the segments stand for
abbrev pub names_of : List (List ℕ) → List (List ℕ)
names_of segments = map decoded segments

-- the text has a slash before each encoded piece, which is a segment and stands for the piece: a word of a private function's clause alone
pub record AreWritten (path text : List ℕ) : Type 0 where
  pub whole : text ≡ flat_map (λ s. slash ∷ s) (encoded_pieces (slice_split is_slash path))
  pub segments : list_all is_segment (encoded_pieces (slice_split is_slash path)) ≡ true
  pub back : names_of (encoded_pieces (slice_split is_slash path)) ≡ slice_split is_slash path

-- ---- from a URI to the path that it names

-- the scheme is `file`, in any case
abbrev pub is_file : Option Scheme → Bool
is_file None = false
is_file (Some s) = bytes_eq (str_to_ascii_lowercase (scheme.text s)) (codes "file")

-- the name is empty or `localhost`, in any case and spelling
abbrev pub is_local_name : List ℕ → Bool
is_local_name n = bytes_eq (canonical_lowered n) [] || bytes_eq (canonical_lowered n) (codes "localhost")

-- there is no authority, or its host is such a name
abbrev pub is_local : Option Host → Bool
is_local None = true
is_local (Some (RegisteredName n)) = is_local_name n
is_local (Some (IPv4Address a)) = false
is_local (Some (IPv6Address a)) = false
is_local (Some (IPvFuture f)) = false

-- why the components around the path name no file of this machine
abbrev pub parts_fault : Parts → Option FileError
parts_fault u =
    if not (is_file u.scheme) then Some errors.NotFile
    else if is_some (username_of u) then Some errors.HasUsername
    else if not (is_local (host_of u)) then Some errors.NotLocal
    else if is_some (port_of u) then Some errors.HasPort
    else if not u.path.absolute then Some errors.NotAbsolute
    else if is_some u.query then Some errors.HasQuery
    else if is_some u.fragment then Some errors.HasFragment
    else None

-- why the bytes are no name of a file: they have a slash or NUL
abbrev pub name_fault : List ℕ → Option FileError
name_fault name =
    if list_any is_slash name then Some errors.EscapedSlash else if list_any is_nul name then Some errors.ContainsNul else None

-- the fault of the first name that has one
abbrev pub names_fault : List (List ℕ) → Option FileError
names_fault [] = None
names_fault (n ∷ ns) = option_or (name_fault n) (names_fault ns)

-- the names, each after a slash; `.` and `..` stay
abbrev pub joined_names : List (List ℕ) → List ℕ
joined_names ns = flat_map (λ n. slash ∷ n) ns

-- the path that the URI names, or why it names none
abbrev pub path_of_uri : Parts → Result (List ℕ) FileError
path_of_uri u =
    unless_fault (option_or (parts_fault u) (names_fault (names_of u.path.segments))) (joined_names (names_of u.path.segments))

-- the same of a text, if it spells a reference: a word of examples
abbrev pub path_named : List ℕ → Option (Result (List ℕ) FileError)
path_named t = option_map path_of_uri (read t)
