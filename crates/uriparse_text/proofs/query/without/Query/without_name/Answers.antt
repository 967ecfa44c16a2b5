use Rattle.std.proofs.Common.{ap, ◌∙◌}
use Rattle.uriparse_text.specs.Pairs.{pairs, without_name}
use Rattle.uriparse_text.proofs.lemmas.readings.WithoutLemmas.{same_query}
use Rattle.uriparse_text.proofs.query.without.Query.without_name.Goals as goal

pub returns-clause-pairs : goal.returns-clause-pairs
returns-clause-pairs c =
    let (ss, written, chosen) = c.in_ok-text.ensures in
    c.query_of_pieces.ensures ss written ∙ chosen ∙ ap (λ q. without_name c.args.name.now (pairs q)) c.as_bytes.ensures.value

pub returns-clause-kept : goal.returns-clause-kept
returns-clause-kept c = λ same. same_query c.args.self.now c.query_of_pieces.result (returns-clause-pairs c ∙ same)
