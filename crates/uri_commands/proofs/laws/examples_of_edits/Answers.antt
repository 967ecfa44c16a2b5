use Rattle.std.proofs.Common.{◌∷◌, [], List, ℕ, codes, refl}
use Rattle.std.specs.Prelude.{unwrap_or}
use Rattle.std.specs.Fmt.{digits}
use Rattle.std.specs.Net.Reader.{read_ipv4, read_ipv6, read_number, read_octet, read_segment, read_segments}
use Rattle.std.specs.Net.Text.{hex, hex_groups_text, ipv6_text}
use Rattle.uriparse.specs.Address.{ipv4_reading, ipv6_reading}
use Rattle.uriparse.specs.Authority as authority
use Rattle.uriparse.specs.Bytes.{is_sub_delim, is_unreserved}
use Rattle.uriparse.specs.Canonical.{canonical_in}
use Rattle.uriparse.specs.Classes.{is_plain}
use Rattle.uriparse.specs.Coding.{decoded, encoded}
use Rattle.uriparse.specs.DefaultPort.{registered_port}
use Rattle.uriparse.specs.Dots.{is_double_dot, is_single_dot, undot}
use Rattle.uriparse.specs.Escaped.{escaped}
use Rattle.uriparse.specs.Path.{max_segments}
use Rattle.uriparse.specs.PathFaults as path
use Rattle.uriparse.specs.Reading.{reading}
use Rattle.uriparse.specs.Relative.{relative_normal}
use Rattle.uriparse.specs.SchemeTable.{row_of, variants}
use Rattle.uriparse.specs.TextFaults as text
use Rattle.uriparse.specs.Tokens.{tokens}
use Rattle.uriparse.specs.Reference.{Parts}
use Rattle.uriparse.specs.Scheme as scheme
use Rattle.uri_commands.specs.Edits.{all_made, edits_of}
use Rattle.uri_commands.specs.Output.{Answer, Edited}
use Rattle.uri_commands.proofs.ReadingLemmas.{Reads, of_reference}
use Rattle.uri_commands.proofs.laws.examples_of_edits.Goals as goal

abbrev Makes : List (List ℕ) → Parts → Answer → Type 0
Makes words p = Edited (all_made (unwrap_or (edits_of words) []) p)

pub returns : goal.returns
unfolding digits read_ipv4 read_ipv6 read_number read_octet read_segment read_segments hex hex_groups_text ipv6_text ipv4_reading ipv6_reading authority.reading is_sub_delim is_unreserved canonical_in is_plain decoded encoded escaped is_double_dot is_single_dot undot relative_normal registered_port max_segments path.fault reading row_of variants text.fault tokens scheme.fault
returns c =
    let reads : Reads = c.one_reading.ensures.reads in
    record {
      components = of_reference reads (codes "http://h/a?q#f")
          (Makes (codes "scheme" ∷ codes "https" ∷ codes "port" ∷ codes "8080" ∷ codes "drop-query" ∷ codes "fragment" ∷ codes "g" ∷ [])) _
          refl;
      pairs = of_reference reads (codes "http://h/?utm_id=1&q=a&%75tm_x")
          (Makes (codes "drop-pair" ∷ codes "utm_*" ∷ codes "set-pair" ∷ codes "p" ∷ codes "&" ∷ [])) _ refl;
      rejected = of_reference reads (codes "/a") (Makes (codes "port" ∷ codes "80" ∷ [])) _ refl;
      unknown = refl;
    }
