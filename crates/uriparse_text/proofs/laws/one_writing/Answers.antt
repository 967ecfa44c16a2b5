use Rattle.uriparse_text.proofs.lemmas.tokens.StartLemmas.{same_buffer, same_result}
use Rattle.uriparse_text.proofs.laws.one_writing.Goals as goal

pub returns : goal.returns
returns c = record { result = same_result; buffer = same_buffer }
