use Rattle.std.proofs.Common.{ap, ◌∙◌}
use Rattle.std.specs.Prelude.{not}
use Rattle.std.specs.List.{filter}
use Rattle.uriparse_text.specs.Pairs.{pairs}
use Rattle.uriparse_text.proofs.lemmas.readings.WithoutLemmas.{without_is}
use Rattle.uriparse_text.proofs.query.without.Query.without_pairs.Goals as goal

pub returns-clause-chosen : goal.returns-clause-chosen
returns-clause-chosen g c = λ is says.
    let (ss, written, chosen) = c.in_ok-text.ensures in
    c.query_of_pieces.ensures ss written ∙ without_is (goal.F-step g) is says _ _ _ chosen
    ∙ ap (λ q. filter (λ p. not (is p)) (pairs q)) c.as_bytes.ensures.value
