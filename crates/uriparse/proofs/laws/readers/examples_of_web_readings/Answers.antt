use Rattle.std.proofs.Common.{refl}
use Rattle.std.specs.Fmt.{digits}
use Rattle.std.specs.Net.Text.{ipv6_text}
use Rattle.std.specs.Net.Reader.{read_ipv4, read_ipv6, read_octet, read_number, read_segment, read_segments}
use Rattle.uriparse_text.specs.Address.{ipv4_reading, ipv6_reading}
use Rattle.uriparse_text.specs.Bytes.{is_unreserved, is_sub_delim}
use Rattle.uriparse_text.specs.Canonical.{canonical_in}
use Rattle.uriparse_text.specs.Classes.{is_plain}
use Rattle.uriparse_text.specs.Coding.{decoded}
use Rattle.uriparse_text.specs.Faults as texts
use Rattle.uriparse_text.specs.Tokens.{tokens}
use Rattle.uriparse_scheme.specs.DefaultPort.{registered_port}
use Rattle.uriparse_scheme.specs.SchemeTable.{row_of, variants}
use Rattle.uriparse_authority.specs.Authority as authority
use Rattle.uriparse_path.specs.Faults as paths
use Rattle.uriparse_path.specs.Path.{max_segments}
use Rattle.uriparse_path.specs.Dots.{is_double_dot, is_single_dot, undot}
use Rattle.uriparse_reference.specs.Reading.{reading}
use Rattle.uriparse.proofs.laws.readers.examples_of_web_readings.Goals as goal

pub returns : goal.returns
unfolding read_ipv4 read_ipv6 read_octet read_number read_segment read_segments ipv4_reading ipv6_reading is_unreserved is_sub_delim canonical_in is_plain
    texts.fault tokens variants row_of registered_port authority.reading paths.fault max_segments reading digits
    ipv6_text decoded undot is_single_dot is_double_dot
returns c = record {
  plain = refl;
  end_dot = refl;
  no_slashes = refl;
  one_slash = refl;
  three_slashes = refl;
  nothing = refl;
  port_alone = refl;
  user_alone = refl;
  user = refl;
  address = refl;
  address_end_dot = refl;
  number = refl;
  hexadecimal = refl;
  octal = refl;
  two_parts = refl;
  hidden = refl;
  no_octal = refl;
  too_large = refl;
  five_parts = refl;
  name_and_number = refl;
  name_and_digit = refl;
  number_and_name = refl;
  escape = refl;
  escaped_slash = refl;
  encoded = refl;
  ipv6 = refl;
  future = refl;
  other_scheme = refl;
  dots = refl;
  escaped_dots = refl;
  empty_path = refl;
}
