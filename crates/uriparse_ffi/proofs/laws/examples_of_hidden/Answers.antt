use Rattle.std.proofs.Common.{refl}
use Rattle.std.specs.Fmt.{digits}
use Rattle.std.specs.Net.Text.{ipv6_text}
use Rattle.std.specs.Net.Reader.{read_ipv4, read_ipv6, read_octet, read_number, read_segment, read_segments}
use Rattle.uriparse_text.specs.Address.{ipv4_reading, ipv6_reading}
use Rattle.uriparse_text.specs.Ambiguous.{is_ambiguous}
use Rattle.uriparse_text.specs.Bytes.{is_unreserved, is_sub_delim}
use Rattle.uriparse_text.specs.Canonical.{canonical_in}
use Rattle.uriparse_text.specs.Classes.{is_plain}
use Rattle.uriparse_text.specs.Coding.{decoded}
use Rattle.uriparse_text.specs.Faults as texts
use Rattle.uriparse_text.specs.Tokens.{tokens}
use Rattle.uriparse_scheme.specs.DefaultPort.{registered_port}
use Rattle.uriparse_scheme.specs.Scheme as schemes
use Rattle.uriparse_scheme.specs.SchemeTable.{row_of, variants}
use Rattle.uriparse_authority.specs.Authority as authority
use Rattle.uriparse_path.specs.Dots.{is_double_dot, is_single_dot, undot}
use Rattle.uriparse_path.specs.Faults as paths
use Rattle.uriparse_path.specs.Path.{max_segments}
use Rattle.uriparse_reference.specs.Change.{changing}
use Rattle.uriparse_reference.specs.Reading.{reading}
use Rattle.uriparse_ffi.proofs.laws.examples_of_hidden.Goals as goal

pub returns : goal.returns
unfolding read_ipv4 read_ipv6 read_octet read_number read_segment read_segments ipv4_reading ipv6_reading is_unreserved is_sub_delim canonical_in is_plain
    texts.fault tokens variants row_of registered_port authority.reading paths.fault max_segments reading digits
    ipv6_text is_ambiguous decoded is_single_dot is_double_dot undot changing schemes.fault
returns c = record {
  port = refl;
  other_port = refl;
  empty_port = refl;
  no_scheme = refl;
  password = refl;
  empty_password = refl;
  no_password = refl;
  not_a_reference = refl;
}
