use Rattle.std.proofs.Common.{refl}
use Rattle.uriparse_text.specs.Bytes.{is_unreserved, is_sub_delim}
use Rattle.uriparse_text.specs.Classes.{is_plain}
use Rattle.uriparse_text.specs.Tokens.{tokens}
use Rattle.uriparse_reference.proofs.uri_reference.masked.stars.Goals as goal

pub checked_text-requires : goal.checked_text-requires
unfolding tokens is_plain is_unreserved is_sub_delim
checked_text-requires c = refl
