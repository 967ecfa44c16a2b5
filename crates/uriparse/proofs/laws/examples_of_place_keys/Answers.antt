use Rattle.std.proofs.Common.{refl}
use Rattle.std.specs.Fmt.{digits}
use Rattle.std.specs.Net.Text.{ipv6_text}
use Rattle.std.specs.Net.Reader.{read_ipv4, read_ipv6, read_octet, read_number, read_segment, read_segments}
use Rattle.uriparse_text.specs.Address.{ipv4_reading, ipv6_reading}
use Rattle.uriparse_text.specs.Bytes.{is_unreserved, is_sub_delim}
use Rattle.uriparse_text.specs.Canonical.{canonical_in}
use Rattle.uriparse_text.specs.Classes.{is_plain}
use Rattle.uriparse_text.specs.Faults as texts
use Rattle.uriparse_text.specs.Tokens.{tokens}
use Rattle.uriparse_scheme.specs.DefaultPort.{registered_port}
use Rattle.uriparse_scheme.specs.SchemeTable.{row_of, variants}
use Rattle.uriparse_authority.specs.Authority as authority
use Rattle.uriparse_path.specs.Faults as paths
use Rattle.uriparse_path.specs.Path.{max_segments}
use Rattle.uriparse_path.specs.Dots.{is_double_dot, is_single_dot, undot}
use Rattle.uriparse_path.specs.Relative.{relative_normal}
use Rattle.uriparse_reference.specs.Reading.{reading}
use Rattle.uriparse.proofs.laws.examples_of_place_keys.Goals as goal

pub returns : goal.returns
unfolding read_ipv4 read_ipv6 read_octet read_number read_segment read_segments ipv4_reading ipv6_reading is_unreserved is_sub_delim canonical_in is_plain
    texts.fault tokens variants row_of registered_port authority.reading paths.fault max_segments reading digits
    ipv6_text undot is_single_dot is_double_dot relative_normal
returns c = record {
  nothing = refl;
  plain = refl;
  spelled = refl;
  escaped_dot = refl;
  end_dot = refl;
  whole = refl;
  ipv4 = refl;
  ipv6 = refl;
  future = refl;
  hidden = refl;
  hidden_dot = refl;
  empty_label = refl;
  escape = refl;
  no_port = refl;
  no_host = refl;
  no_authority = refl;
  two_slashes = refl;
  domain = refl;
  domain_dot = refl;
  domain_address = refl;
  domain_hidden = refl;
  base = refl;
  base_slash = refl;
  base_dot = refl;
  base_alone = refl;
  base_rooted = refl;
  begins_below = refl;
  begins_directory = refl;
  begins_longer_name = refl;
  begins_no_slash = refl;
  begins_user = refl;
  begins_end_dot_host = refl;
}
