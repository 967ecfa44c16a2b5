use Rattle.std.proofs.Common.{◌≡◌, ◌∷◌, [], inr, codes, refl}
use Rattle.std.specs.Prelude.{MatchOption, MatchResult, bytes_eq, map, unwrap_or}
use Rattle.std.specs.List.{join_with_byte}
use Rattle.std.specs.Option.{option_map}
use Rattle.std.specs.Fmt.{digits}
use Rattle.std.specs.Net.Reader.{read_ipv4, read_ipv6, read_number, read_octet, read_segment, read_segments}
use Rattle.std.specs.Net.Text.{hex, hex_groups_text, ipv6_text}
use Rattle.uriparse.specs.Address.{ipv4_reading, ipv6_reading}
use Rattle.uriparse.specs.Authority as authority
use Rattle.uriparse.specs.Bytes.{is_sub_delim, is_unreserved}
use Rattle.uriparse.specs.Canonical.{canonical_in}
use Rattle.uriparse.specs.Classes.{is_plain}
use Rattle.uriparse.specs.Coding.{decoded, encoded}
use Rattle.uriparse.specs.DefaultPort.{registered_port}
use Rattle.uriparse.specs.Dots.{is_double_dot, is_single_dot, undot}
use Rattle.uriparse.specs.Escaped.{escaped}
use Rattle.uriparse.specs.Path.{max_segments}
use Rattle.uriparse.specs.PathFaults as path
use Rattle.uriparse.specs.Reading.{reading}
use Rattle.uriparse.specs.Relative.{relative_normal}
use Rattle.uriparse.specs.SchemeTable.{row_of, variants}
use Rattle.uriparse.specs.TextFaults as text
use Rattle.uriparse.specs.Tokens.{tokens}
use Rattle.uriparse.specs.File.{path_of_uri}
use Rattle.uriparse.specs.Key.{key}
use Rattle.uriparse.specs.Disagreement.{disagreement}
use Rattle.uriparse.specs.Normal.{normal}
use Rattle.uriparse.specs.PairEdits.{pair_in}
use Rattle.uriparse.specs.Ports.{without_default_port}
use Rattle.uriparse.specs.Reference.{Parts, print}
use Rattle.uriparse.specs.SortKey.{sort_key}
use Rattle.uriparse.specs.Target.{target}
use Rattle.uri_commands.specs.Columns.{tab}
use Rattle.uri_commands.specs.Output.{Answer, Printed, Prints, PrintsIfPresent, PrintsPairs, Rejected, equal_or_different, nothing_if, part_text, reason_word, reference_lines}
use Rattle.uri_commands.specs.declared.get.Part.TheVariants as part
use Rattle.uri_commands.proofs.ReadingLemmas.{Reads, of_base, of_reference, of_two, of_uri}
use Rattle.uri_commands.proofs.laws.examples_of_outputs.Goals as goal

pub returns : goal.returns
unfolding digits read_ipv4 read_ipv6 read_number read_octet read_segment read_segments hex hex_groups_text ipv6_text ipv4_reading ipv6_reading authority.reading is_sub_delim is_unreserved canonical_in is_plain decoded encoded escaped is_double_dot is_single_dot undot relative_normal registered_port max_segments path.fault reading row_of variants text.fault tokens
returns c =
    let reads : Reads = c.one_reading.ensures.reads in
    record {
      parse = of_reference reads (codes "HTTP://u@h:80/%7Eb?q#f") (λ p a. a ≡ Printed (reference_lines p)) _ refl;
      rejected = inr (_, refl, refl);
      origin = of_reference reads (codes "https://u@example.com:8443/a?b&c#d") (λ p. PrintsIfPresent (part_text part.Origin p)) _ refl;
      absent = of_reference reads (codes "http://h/") (λ p. PrintsIfPresent (part_text part.Port p)) _ refl;
      several = of_reference reads (codes "http://h/a")
          (λ p. Prints (join_with_byte tab (map (λ part. unwrap_or (part_text part p) []) (part.Host ∷ part.Query ∷ [])))) _ refl;
      normalize = of_reference reads (codes "HTTP://%61:80/b/../%7Ec") (λ p. Prints (print (normal p))) _ refl;
      drop_default_port = of_reference reads (codes "HTTP://a:80/%7E") (λ p. Prints (print (without_default_port (normal p)))) _ refl;
      key = of_reference reads (codes "a?b") (λ p. Prints (sort_key p)) _ refl;
      agree = of_reference reads (codes "http://h/a") (λ p. Prints (reason_word (disagreement p))) _ refl;
      audit = of_reference reads (codes "http://127.1/") (λ p. Prints (reason_word (disagreement p))) _ refl;
      audit_relative = of_reference reads (codes "//h/a") (λ p. Prints (reason_word (disagreement p))) _ refl;
      equal =
          of_two reads (codes "http://h/%7ea") (codes "HTTP://H/~a") (λ p q. Prints (equal_or_different (bytes_eq (key p) (key q)))) _ refl;
      different = of_two reads (codes "http://h/a") (codes "http://h/b") (λ p q a. a ≡ nothing_if (bytes_eq (key p) (key q))) _ refl;
      resolve = of_base reads (codes "http://a/b/c/d;p?q") (codes "../g#s")
          (λ b p a. MatchOption (target b p) (a ≡ Rejected) (λ q. Prints (print q) a)) _ (refl, refl);
      decode = refl;
      encode = refl;
      escape = refl;
      trim = refl;
      pairs = of_reference reads (codes "http://h/a%20b?q=100%25&r=%5Bx%5D") (λ p. PrintsPairs p.query) _ refl;
      pair =
          of_reference reads (codes "http://h/?q=100%25&r=%5Bx%5D")
          (λ p. PrintsIfPresent (option_map decoded (pair_in (codes "r") p))) _ refl;
      file = refl;
      get_file = of_uri reads (codes "file:///tmp/100%25%20of%20a%20b.txt") Found _ (refl, refl);
      other_host = of_uri reads (codes "file://host.example.com/tmp/a") Found _ (refl, refl);
    }
  where
    Found : Parts → Answer → Type 0
    Found p a = MatchResult (path_of_uri p) (λ path. Prints path a) (λ e. a ≡ Rejected)
