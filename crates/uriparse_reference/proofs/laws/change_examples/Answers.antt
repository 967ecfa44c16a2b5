use Rattle.std.proofs.Common.{refl}
use Rattle.std.specs.Fmt.{digits}
use Rattle.std.specs.Net.Reader.{read_ipv4, read_ipv6, read_octet, read_number, read_segment, read_segments}
use Rattle.uriparse_text.specs.Address.{ipv4_reading, ipv6_reading}
use Rattle.uriparse_text.specs.Bytes.{is_unreserved, is_sub_delim}
use Rattle.uriparse_text.specs.Canonical.{canonical_in}
use Rattle.uriparse_text.specs.Classes.{is_plain}
use Rattle.uriparse_text.specs.Faults as texts
use Rattle.uriparse_text.specs.Tokens.{tokens}
use Rattle.uriparse_scheme.specs.SchemeTable.{row_of, variants}
use Rattle.uriparse_authority.specs.Authority as authority
use Rattle.uriparse_path.specs.Dots.{is_single_dot, is_double_dot, undot}
use Rattle.uriparse_path.specs.Faults as paths
use Rattle.uriparse_path.specs.Path.{max_segments}
use Rattle.uriparse_path.specs.Relative.{relative_normal}
use Rattle.uriparse_reference.specs.Reading.{reading}
use Rattle.uriparse_scheme.specs.DefaultPort.{registered_port}
use Rattle.uriparse_reference.proofs.laws.change_examples.Goals as goal

pub returns-clause-port : goal.returns-clause-port
unfolding digits read_ipv4 read_ipv6 read_octet read_number read_segment read_segments ipv4_reading ipv6_reading is_unreserved is_sub_delim canonical_in
    is_plain
    texts.fault tokens variants row_of authority.reading is_single_dot is_double_dot undot paths.fault max_segments relative_normal registered_port reading
returns-clause-port c = refl

pub returns-clause-own_port : goal.returns-clause-own_port
unfolding digits read_ipv4 read_ipv6 read_octet read_number read_segment read_segments ipv4_reading ipv6_reading is_unreserved is_sub_delim canonical_in
    is_plain
    texts.fault tokens variants row_of authority.reading is_single_dot is_double_dot undot paths.fault max_segments relative_normal registered_port reading
returns-clause-own_port c = refl

pub returns-clause-no_port : goal.returns-clause-no_port
unfolding digits read_ipv4 read_ipv6 read_octet read_number read_segment read_segments ipv4_reading ipv6_reading is_unreserved is_sub_delim canonical_in
    is_plain
    texts.fault tokens variants row_of authority.reading is_single_dot is_double_dot undot paths.fault max_segments relative_normal registered_port reading
returns-clause-no_port c = (refl, refl)

pub returns-clause-default : goal.returns-clause-default
unfolding digits read_ipv4 read_ipv6 read_octet read_number read_segment read_segments ipv4_reading ipv6_reading is_unreserved is_sub_delim canonical_in
    is_plain
    texts.fault tokens variants row_of authority.reading is_single_dot is_double_dot undot paths.fault max_segments relative_normal registered_port reading
returns-clause-default c = refl

pub returns-clause-other : goal.returns-clause-other
unfolding digits read_ipv4 read_ipv6 read_octet read_number read_segment read_segments ipv4_reading ipv6_reading is_unreserved is_sub_delim canonical_in
    is_plain
    texts.fault tokens variants row_of authority.reading is_single_dot is_double_dot undot paths.fault max_segments relative_normal registered_port reading
returns-clause-other c = (refl, refl)

pub returns-clause-password : goal.returns-clause-password
unfolding digits read_ipv4 read_ipv6 read_octet read_number read_segment read_segments ipv4_reading ipv6_reading is_unreserved is_sub_delim canonical_in
    is_plain
    texts.fault tokens variants row_of authority.reading is_single_dot is_double_dot undot paths.fault max_segments relative_normal registered_port reading
returns-clause-password c = refl

pub returns-clause-no_password : goal.returns-clause-no_password
unfolding digits read_ipv4 read_ipv6 read_octet read_number read_segment read_segments ipv4_reading ipv6_reading is_unreserved is_sub_delim canonical_in
    is_plain
    texts.fault tokens variants row_of authority.reading is_single_dot is_double_dot undot paths.fault max_segments relative_normal registered_port reading
returns-clause-no_password c = refl

pub returns-clause-appended : goal.returns-clause-appended
unfolding digits read_ipv4 read_ipv6 read_octet read_number read_segment read_segments ipv4_reading ipv6_reading is_unreserved is_sub_delim canonical_in
    is_plain
    texts.fault tokens variants row_of authority.reading is_single_dot is_double_dot undot paths.fault max_segments relative_normal registered_port reading
returns-clause-appended c = (refl, refl)

pub returns-clause-misplaced : goal.returns-clause-misplaced
unfolding digits read_ipv4 read_ipv6 read_octet read_number read_segment read_segments ipv4_reading ipv6_reading is_unreserved is_sub_delim canonical_in
    is_plain
    texts.fault tokens variants row_of authority.reading is_single_dot is_double_dot undot paths.fault max_segments relative_normal registered_port reading
returns-clause-misplaced c = (refl, refl)
