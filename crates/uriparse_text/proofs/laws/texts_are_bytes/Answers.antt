use Rattle.uriparse_text.proofs.lemmas.tokens.BackLemmas.{are_bytes-decoded, are_bytes-form_decoded, are_bytes-in_class}
use Rattle.uriparse_text.proofs.laws.texts_are_bytes.Goals as goal

pub returns : goal.returns
returns c = record { text = are_bytes-in_class; decoded = are_bytes-decoded; form = are_bytes-form_decoded }
