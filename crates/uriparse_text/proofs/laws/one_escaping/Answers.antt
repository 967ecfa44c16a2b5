use Rattle.uriparse_text.proofs.lemmas.tokens.EscapingLemmas.{IsIn-escaped, escaped-IsIn-nil, decoded-escaped, escaped-twice}
use Rattle.uriparse_text.proofs.laws.one_escaping.Goals as goal

pub returns : goal.returns
returns c = record { class = IsIn-escaped; kept = escaped-IsIn-nil; bytes = decoded-escaped; twice = escaped-twice }
