use Rattle.uriparse_path.proofs.lemmas.text.SplitLemmas.{joined-pieces}
use Rattle.uriparse_path.proofs.lemmas.text.PathTextLemmas.{pieces-segments}
use Rattle.uriparse_path.proofs.laws.splitting_and_joining.Goals as goal

pub returns : goal.returns
returns c = record { joined = joined-pieces; split = pieces-segments }
