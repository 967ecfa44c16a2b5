use Rattle.uri_commands.proofs.ObjectLemmas.{one_text}
use Rattle.uri_commands.proofs.json.laws.one_object.Goals as goal

pub returns : goal.returns
returns c = one_text
