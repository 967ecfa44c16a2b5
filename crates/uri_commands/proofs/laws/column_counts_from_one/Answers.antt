use Rattle.uri_commands.proofs.OptionLemmas.{numeral_column}
use Rattle.uri_commands.proofs.laws.column_counts_from_one.Goals as goal

pub returns : goal.returns
returns c = numeral_column
