use Rattle.std.proofs.Common.{refl}
use Rattle.std.specs.Net.Reader.{read_ipv4, read_ipv6, read_octet, read_number, read_segment, read_segments}
use Rattle.uriparse_text.specs.Address.{ipv4_reading, ipv6_reading}
use Rattle.uriparse_text.specs.Bytes.{is_unreserved, is_sub_delim}
use Rattle.uriparse_text.specs.Canonical.{canonical_in}
use Rattle.uriparse_text.specs.Classes.{is_plain}
use Rattle.uriparse_text.specs.Faults as texts
use Rattle.uriparse_text.specs.Tokens.{tokens}
use Rattle.uriparse_scheme.specs.SchemeTable.{row_of, variants}
use Rattle.uriparse_authority.specs.Authority as authority
use Rattle.uriparse_path.specs.Dots.{is_single_dot, is_double_dot, undot}
use Rattle.uriparse_path.specs.Faults as paths
use Rattle.uriparse_path.specs.Path.{max_segments}
use Rattle.uriparse_path.specs.Relative.{relative_normal}
use Rattle.uriparse_reference.specs.Reading.{reading}
use Rattle.uriparse_reference.specs.Relate.{relative}
use Rattle.uriparse_reference.proofs.laws.relative_examples.Goals as goal

pub returns : goal.returns
unfolding read_ipv4 read_ipv6 read_octet read_number read_segment read_segments ipv4_reading ipv6_reading is_unreserved is_sub_delim canonical_in is_plain
    texts.fault tokens variants row_of authority.reading is_single_dot is_double_dot undot paths.fault max_segments relative_normal reading relative
returns c = record {
  directories = refl;
  below = refl;
  fragment = refl;
  query = refl;
  no_query = refl;
  empty = refl;
  colon = refl;
  dots = refl;
  authority = refl;
  scheme = refl;
  spelling = refl;
  no_slash = refl;
  two_slashes = refl;
}
