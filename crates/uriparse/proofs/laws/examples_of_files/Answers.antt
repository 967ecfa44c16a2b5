use Rattle.std.proofs.Common.{refl}
use Rattle.std.specs.Net.Reader.{read_ipv4, read_ipv6, read_octet, read_number, read_segment, read_segments}
use Rattle.uriparse_text.specs.Address.{ipv4_reading, ipv6_reading}
use Rattle.uriparse_text.specs.Bytes.{is_unreserved, is_sub_delim}
use Rattle.uriparse_text.specs.Canonical.{canonical_in}
use Rattle.uriparse_text.specs.Classes.{is_plain}
use Rattle.uriparse_text.specs.Coding.{decoded, encoded}
use Rattle.uriparse_text.specs.Faults as texts
use Rattle.uriparse_text.specs.Tokens.{tokens}
use Rattle.uriparse_scheme.specs.SchemeTable.{row_of, variants}
use Rattle.uriparse_authority.specs.Authority as authority
use Rattle.uriparse_path.specs.Faults as paths
use Rattle.uriparse_path.specs.Path.{max_segments}
use Rattle.uriparse_reference.specs.Reading.{reading}
use Rattle.uriparse.proofs.laws.examples_of_files.Goals as goal

pub returns : goal.returns
unfolding read_ipv4 read_ipv6 read_octet read_number read_segment read_segments ipv4_reading ipv6_reading is_unreserved is_sub_delim canonical_in is_plain
    decoded encoded texts.fault tokens variants row_of authority.reading paths.fault max_segments reading
returns c = record {
  traditional = refl;
  root = refl;
  escaped = refl;
  not_text = refl;
  empty_names = refl;
  dots = refl;
  relative = refl;
  no_path = refl;
  nul = refl;
  named = refl;
  minimal = refl;
  local = refl;
  empty = refl;
  kept = refl;
  rootless = refl;
  other_scheme = refl;
  username = refl;
  host = refl;
  address = refl;
  port = refl;
  query = refl;
  fragment = refl;
  escaped_slash = refl;
  escaped_nul = refl;
}
