use Rattle.std.proofs.Common.{refl}
use Rattle.uriparse_text.specs.Bytes.{is_unreserved, is_sub_delim}
use Rattle.uriparse_text.specs.Classes.{is_plain}
use Rattle.uriparse_reference.proofs.uri_reference.read.find_query.Goals as goal

pub find_text_before-requires : goal.find_text_before-requires
unfolding is_plain is_unreserved is_sub_delim
find_text_before-requires c = record { outside = refl; no_sign = refl; no_digit = refl }
