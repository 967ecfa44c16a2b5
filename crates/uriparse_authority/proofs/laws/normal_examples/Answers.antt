use Rattle.std.proofs.Common.{refl}
use Rattle.uriparse_text.specs.Bytes.{is_unreserved}
use Rattle.uriparse_text.specs.Canonical.{canonical_in}
use Rattle.uriparse_text.specs.Tokens.{tokens}
use Rattle.uriparse_authority.proofs.laws.normal_examples.Goals as goal

pub returns : goal.returns
unfolding is_unreserved canonical_in tokens
returns c = record { letters = refl; escape = refl; hidden = refl; empty = refl; later_version = refl; whole = refl }
