use Rattle.std.proofs.Common.{refl}
use Rattle.uriparse_text.specs.Bytes.{is_unreserved, is_sub_delim}
use Rattle.uriparse_text.specs.Classes.{is_plain}
use Rattle.uriparse_reference.specs.Escaped.{escaped}
use Rattle.uriparse_reference.proofs.laws.escaping_examples.Goals as goal

pub returns : goal.returns
unfolding is_unreserved is_sub_delim is_plain escaped
returns c = record {
  empty = refl;
  space = refl;
  sign = refl;
  broken = refl;
  escape = refl;
  brackets = refl;
  address = refl;
  number_sign = refl;
  others = refl;
  iri = refl;
  host = refl;
  colon = refl;
}
