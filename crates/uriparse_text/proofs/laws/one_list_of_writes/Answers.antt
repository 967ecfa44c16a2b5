use Rattle.uriparse_text.proofs.lemmas.canonical.HashLemmas.{fed_blocks}
use Rattle.uriparse_text.proofs.laws.one_list_of_writes.Goals as goal

pub returns : goal.returns
returns c = fed_blocks
