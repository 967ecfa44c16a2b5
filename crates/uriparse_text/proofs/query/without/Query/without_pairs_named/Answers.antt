use Rattle.std.proofs.Common.{ap, ◌∙◌}
use Rattle.uriparse_text.specs.Pairs.{pairs, without_names}
use Rattle.uriparse_text.proofs.lemmas.readings.WithoutLemmas.{same_query}
use Rattle.uriparse_text.proofs.query.without.Query.without_pairs_named.Goals as goal

pub returns-clause-pairs : goal.returns-clause-pairs
returns-clause-pairs c =
    let (ss, written, chosen) = c.in_ok-text.ensures in
    c.query_of_pieces.ensures ss written ∙ chosen
    ∙ ap (λ q. without_names (pairs q) (pairs c.as_bytes.result.now)) c.as_bytes-2.ensures.value
    ∙ ap (λ q. without_names (pairs c.args.names.now) (pairs q)) c.as_bytes.ensures.value

pub returns-clause-kept : goal.returns-clause-kept
returns-clause-kept c = λ same. same_query c.args.self.now c.query_of_pieces.result (returns-clause-pairs c ∙ same)
