use Rattle.std.proofs.Common.{refl}
use Rattle.std.specs.Fmt.{digits}
use Rattle.std.specs.Net.Reader.{read_ipv4, read_ipv6, read_octet, read_number, read_segment, read_segments}
use Rattle.uriparse_text.specs.Address.{ipv4_reading, ipv6_reading}
use Rattle.uriparse_text.specs.Bytes.{is_unreserved, is_sub_delim}
use Rattle.uriparse_text.specs.Canonical.{canonical_in}
use Rattle.uriparse_text.specs.Classes.{is_plain}
use Rattle.uriparse_text.specs.Faults as texts
use Rattle.uriparse_text.specs.Tokens.{tokens}
use Rattle.uriparse_scheme.specs.SchemeTable.{row_of, variants}
use Rattle.uriparse_authority.specs.Authority as authority
use Rattle.uriparse_path.specs.Dots.{is_single_dot, is_double_dot, undot}
use Rattle.uriparse_path.specs.Faults as paths
use Rattle.uriparse_path.specs.Path.{max_segments}
use Rattle.uriparse_path.specs.Relative.{relative_normal}
use Rattle.uriparse_reference.specs.Reading.{reading}
use Rattle.uriparse_reference.proofs.laws.normal_examples.Goals as goal

pub returns-clause-forms : goal.returns-clause-forms
unfolding digits read_ipv4 read_ipv6 read_octet read_number read_segment read_segments ipv4_reading ipv6_reading is_unreserved is_sub_delim canonical_in
    is_plain
    texts.fault tokens variants row_of authority.reading is_single_dot is_double_dot undot paths.fault max_segments relative_normal reading
returns-clause-forms c = refl

pub returns-clause-relative_forms : goal.returns-clause-relative_forms
unfolding digits read_ipv4 read_ipv6 read_octet read_number read_segment read_segments ipv4_reading ipv6_reading is_unreserved is_sub_delim canonical_in
    is_plain
    texts.fault tokens variants row_of authority.reading is_single_dot is_double_dot undot paths.fault max_segments relative_normal reading
returns-clause-relative_forms c = refl

pub returns-clause-dot_prefixed : goal.returns-clause-dot_prefixed
unfolding digits read_ipv4 read_ipv6 read_octet read_number read_segment read_segments ipv4_reading ipv6_reading is_unreserved is_sub_delim canonical_in
    is_plain
    texts.fault tokens variants row_of authority.reading is_single_dot is_double_dot undot paths.fault max_segments relative_normal reading
returns-clause-dot_prefixed c = refl

pub returns-clause-with_leading_dot : goal.returns-clause-with_leading_dot
unfolding digits read_ipv4 read_ipv6 read_octet read_number read_segment read_segments ipv4_reading ipv6_reading is_unreserved is_sub_delim canonical_in
    is_plain
    texts.fault tokens variants row_of authority.reading is_single_dot is_double_dot undot paths.fault max_segments relative_normal reading
returns-clause-with_leading_dot c = refl

pub returns-clause-authority : goal.returns-clause-authority
unfolding digits read_ipv4 read_ipv6 read_octet read_number read_segment read_segments ipv4_reading ipv6_reading is_unreserved is_sub_delim canonical_in
    is_plain
    texts.fault tokens variants row_of authority.reading is_single_dot is_double_dot undot paths.fault max_segments relative_normal reading
returns-clause-authority c = refl

pub returns-clause-dots : goal.returns-clause-dots
unfolding digits read_ipv4 read_ipv6 read_octet read_number read_segment read_segments ipv4_reading ipv6_reading is_unreserved is_sub_delim canonical_in
    is_plain
    texts.fault tokens variants row_of authority.reading is_single_dot is_double_dot undot paths.fault max_segments relative_normal reading
returns-clause-dots c = refl

pub returns-clause-equal : goal.returns-clause-equal
unfolding digits read_ipv4 read_ipv6 read_octet read_number read_segment read_segments ipv4_reading ipv6_reading is_unreserved is_sub_delim canonical_in
    is_plain
    texts.fault tokens variants row_of authority.reading is_single_dot is_double_dot undot paths.fault max_segments relative_normal reading
returns-clause-equal c = refl

pub returns-clause-equal_path : goal.returns-clause-equal_path
unfolding digits read_ipv4 read_ipv6 read_octet read_number read_segment read_segments ipv4_reading ipv6_reading is_unreserved is_sub_delim canonical_in
    is_plain
    texts.fault tokens variants row_of authority.reading is_single_dot is_double_dot undot paths.fault max_segments relative_normal reading
returns-clause-equal_path c = refl

pub returns-clause-unequal_dots : goal.returns-clause-unequal_dots
unfolding digits read_ipv4 read_ipv6 read_octet read_number read_segment read_segments ipv4_reading ipv6_reading is_unreserved is_sub_delim canonical_in
    is_plain
    texts.fault tokens variants row_of authority.reading is_single_dot is_double_dot undot paths.fault max_segments relative_normal reading
returns-clause-unequal_dots c = refl

pub returns-clause-unequal_hosts : goal.returns-clause-unequal_hosts
unfolding digits read_ipv4 read_ipv6 read_octet read_number read_segment read_segments ipv4_reading ipv6_reading is_unreserved is_sub_delim canonical_in
    is_plain
    texts.fault tokens variants row_of authority.reading is_single_dot is_double_dot undot paths.fault max_segments relative_normal reading
returns-clause-unequal_hosts c = refl

pub returns-clause-unequal_slash : goal.returns-clause-unequal_slash
unfolding digits read_ipv4 read_ipv6 read_octet read_number read_segment read_segments ipv4_reading ipv6_reading is_unreserved is_sub_delim canonical_in
    is_plain
    texts.fault tokens variants row_of authority.reading is_single_dot is_double_dot undot paths.fault max_segments relative_normal reading
returns-clause-unequal_slash c = refl
