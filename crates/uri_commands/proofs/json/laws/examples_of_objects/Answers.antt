use Rattle.std.proofs.Common.{refl}
use Rattle.std.specs.Fmt.{digits}
use Rattle.std.specs.Net.Reader.{read_ipv4, read_ipv6, read_number, read_octet, read_segment, read_segments}
use Rattle.std.specs.Net.Text.{hex, hex_groups_text, ipv6_text}
use Rattle.uriparse.specs.Address.{ipv4_reading, ipv6_reading}
use Rattle.uriparse.specs.Authority as authority
use Rattle.uriparse.specs.Bytes.{is_sub_delim, is_unreserved}
use Rattle.uriparse.specs.Classes.{is_plain}
use Rattle.uriparse.specs.Path.{max_segments}
use Rattle.uriparse.specs.PathFaults as path
use Rattle.uriparse.specs.Reading.{reading}
use Rattle.uriparse.specs.SchemeTable.{row_of, variants}
use Rattle.uriparse.specs.TextFaults as text
use Rattle.uriparse.specs.Tokens.{tokens}
use Rattle.uri_commands.proofs.json.laws.examples_of_objects.Goals as goal

pub returns : goal.returns
unfolding digits read_ipv4 read_ipv6 read_number read_octet read_segment read_segments hex hex_groups_text ipv6_text ipv4_reading ipv6_reading authority.reading is_sub_delim is_unreserved is_plain max_segments path.fault reading row_of variants text.fault tokens
returns c = record { empty = refl; whole = refl; address = refl }
