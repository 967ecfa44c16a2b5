use Rattle.uriparse_path.proofs.lemmas.text.PathTextLemmas.{text-spelled, spelled-text, listed-respelled}
use Rattle.uriparse_path.proofs.laws.reading_back.Goals as goal

pub returns : goal.returns
returns c = record { text = text-spelled; path = spelled-text; listed = listed-respelled }
