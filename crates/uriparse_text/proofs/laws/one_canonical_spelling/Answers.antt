use Rattle.uriparse_text.proofs.lemmas.canonical.CanonicalLemmas.{canonical_in-concatenation, canonical_in-append, canonical_in-canonical_in}
use Rattle.uriparse_text.proofs.lemmas.classes.ClassLemmas.{IsIn-canonical_in}
use Rattle.uriparse_text.proofs.laws.one_canonical_spelling.Goals as goal

pub returns : goal.returns
returns c = record { tokens = canonical_in-concatenation; border = canonical_in-append; twice = canonical_in-canonical_in; class = IsIn-canonical_in }
