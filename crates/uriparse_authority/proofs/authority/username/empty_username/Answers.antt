use Rattle.std.proofs.Common.{refl}
use Rattle.uriparse_text.specs.Tokens.{tokens}
use Rattle.uriparse_authority.proofs.authority.username.empty_username.Goals as goal

pub checked_text-requires : goal.checked_text-requires
unfolding tokens
checked_text-requires c = refl
