use Rattle.uri_commands.proofs.OutputLemmas.{found_below}
use Rattle.uri_commands.proofs.within.check_below.Goals as goal

pub returns : goal.returns
returns c = found_below c.args.text.now c.args.base.now.parts _ c.only_within.result c.in_ok-is_below.ensures c.only_within.ensures
