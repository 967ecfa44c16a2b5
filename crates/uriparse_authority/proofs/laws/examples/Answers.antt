use Rattle.std.proofs.Common.{refl}
use Rattle.std.specs.Net.Reader.{read_ipv4, read_ipv6, read_octet, read_number, read_segment, read_segments}
use Rattle.uriparse_text.specs.Address.{ipv4_reading, ipv6_reading}
use Rattle.uriparse_text.specs.Bytes.{is_unreserved, is_sub_delim}
use Rattle.uriparse_text.specs.Classes.{is_plain}
use Rattle.uriparse_text.specs.Faults as texts
use Rattle.uriparse_text.specs.Tokens.{tokens}
use Rattle.uriparse_authority.specs.Authority.{reading}
use Rattle.uriparse_authority.proofs.laws.examples.Goals as goal

pub returns : goal.returns
unfolding read_ipv4 read_ipv6 read_octet read_number read_segment read_segments ipv4_reading ipv6_reading is_unreserved is_sub_delim is_plain texts.fault tokens
    reading
returns c = record {
  address = refl;
  leading_zero = refl;
  large_octet = refl;
  no_name = refl;
  empty_brackets = refl;
  nine_groups = refl;
  no_group = refl;
  later_version = refl;
  later_version_colon = refl;
  no_version = refl;
  no_dot = refl;
  nothing_after_dot = refl;
  no_digit = refl;
  other_digit = refl;
  later_version_escape = refl;
  later_version_bracket = refl;
  digit_first = refl;
  digit_first_alone = refl;
  empty_alone = refl;
  open_bracket = refl;
  no_port = refl;
  zeros = refl;
  largest = refl;
  overflow = refl;
  byte_first = refl;
  overflow_first = refl;
  username_colon = refl;
  username_escape = refl;
  first_at = refl;
  first_part = refl;
  password_escape = refl;
  after_port = refl;
  after_address = refl;
  after_later_version = refl;
  after_name = refl;
  last_colon = refl;
}
