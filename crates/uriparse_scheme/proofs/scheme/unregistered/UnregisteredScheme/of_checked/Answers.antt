use Rattle.uriparse_scheme.proofs.lemmas.schemes.GrammarLemmas.{IsUtf8-scheme}
use Rattle.uriparse_scheme.proofs.scheme.unregistered.UnregisteredScheme.of_checked.Goals as goal

pub from_utf8_unchecked-requires : goal.from_utf8_unchecked-requires
from_utf8_unchecked-requires c = IsUtf8-scheme c.args.bytes.now c.requires.scheme
