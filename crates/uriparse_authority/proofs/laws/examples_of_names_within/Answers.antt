use Rattle.std.proofs.Common.{[], ◌∷◌, refl, sym}
use Rattle.std.specs.Prelude.{codes}
use Rattle.std.specs.Net.Reader.{read_ipv4, read_number, read_octet}
use Rattle.std.proofs.lemmas.Bool.{false≢true}
use Rattle.uriparse_text.specs.Address.{ipv4_reading}
use Rattle.uriparse_authority.specs.Within.{labels}
use Rattle.uriparse_authority.proofs.lemmas.hosts.NameWithinLemmas.{no_end}
use Rattle.uriparse_authority.proofs.laws.examples_of_names_within.Goals as goal

pub returns : goal.returns
unfolding ipv4_reading read_ipv4 read_number read_octet
returns c = record {
  below = record { full = refl; unescaped = refl; unescaped_domain = refl; plain = refl; plain_domain = refl; ends = (codes "www" ∷ [], refl) };
  itself = record { full = refl; unescaped = refl; unescaped_domain = refl; plain = refl; plain_domain = refl; ends = ([], refl) };
  dot_at_the_end = record { full = refl; unescaped = refl; unescaped_domain = refl; plain = refl; plain_domain = refl; ends = (codes "www" ∷ [], refl) };
  dot_after_the_domain = record { full = refl; unescaped = refl; unescaped_domain = refl; plain = refl; plain_domain = refl; ends = (codes "www" ∷ [], refl) };
  sub_delimiter = record { full = refl; unescaped = refl; unescaped_domain = refl; plain = refl; plain_domain = refl; ends = (codes "a;b" ∷ [], refl) };
  no_dot = λ w. no_end (labels (codes "evilexample.com")) (labels (codes "example.com")) refl w.ends.0 w.ends.1;
  in_front = λ w. no_end (labels (codes "example.com.evil.org")) (labels (codes "example.com")) refl w.ends.0 w.ends.1;
  above = λ w. no_end (labels (codes "com")) (labels (codes "example.com")) refl w.ends.0 w.ends.1;
  empty_label = λ w. false≢true (sym w.full);
  empty_first_label = λ w. false≢true (sym w.full);
  address = λ w. false≢true (sym w.plain);
  escaped_slash = λ w. false≢true (sym w.unescaped);
  escaped_nul = λ w. false≢true (sym w.unescaped);
  escaped_domain = λ w. false≢true (sym w.unescaped);
}
