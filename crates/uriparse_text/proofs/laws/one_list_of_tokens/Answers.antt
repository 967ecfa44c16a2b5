use Rattle.uriparse_text.proofs.lemmas.tokens.TokenLemmas.{well_formed_iff, one_concatenation}
use Rattle.uriparse_text.proofs.laws.one_list_of_tokens.Goals as goal

pub returns : goal.returns
returns c = record { some = well_formed_iff; one = one_concatenation }
