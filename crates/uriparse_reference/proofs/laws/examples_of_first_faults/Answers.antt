use Rattle.std.proofs.Common.{refl}
use Rattle.std.specs.Net.Reader.{read_ipv4, read_ipv6, read_number, read_octet, read_segment, read_segments}
use Rattle.uriparse_text.specs.Address.{ipv4_reading, ipv6_reading}
use Rattle.uriparse_text.specs.Bytes.{is_unreserved, is_sub_delim}
use Rattle.uriparse_text.specs.Classes.{is_plain}
use Rattle.uriparse_text.specs.Tokens.{tokens}
use Rattle.uriparse_text.specs.Faults as text
use Rattle.uriparse_text.specs.Offset as offset
use Rattle.uriparse_path.specs.Path.{max_segments}
use Rattle.uriparse_path.specs.Faults as path
use Rattle.uriparse_path.specs.Offset.{offset_within}
use Rattle.uriparse_authority.specs.Authority as authority
use Rattle.uriparse_reference.specs.Reading.{reading}
use Rattle.uriparse_reference.proofs.laws.examples_of_first_faults.Goals as goal

pub returns : goal.returns
unfolding read_ipv4 read_ipv6 read_octet read_number read_segment read_segments ipv4_reading ipv6_reading is_unreserved is_sub_delim is_plain tokens text.fault offset.fault_offset max_segments path.fault offset_within authority.reading reading
returns c = record {
  none = refl;
  username = refl;
  username_escape = refl;
  password = refl;
  password_escape = refl;
  name = refl;
  name_escape = refl;
  ipv6 = refl;
  ipv6_form = refl;
  future = refl;
  future_form = refl;
  port = refl;
  port_range = refl;
  path = refl;
  path_escape = refl;
  colon = refl;
  query = refl;
  query_escape = refl;
  fragment = refl;
  fragment_escape = refl;
  segments = refl;
}
