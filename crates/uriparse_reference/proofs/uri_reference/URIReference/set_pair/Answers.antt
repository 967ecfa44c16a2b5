use Rattle.std.proofs.Common.{ap, ◌∙◌, map}
use Rattle.std.specs.List.{filter}
use Rattle.uriparse_text.specs.Pairs.{decoded_pair, is_named}
use Rattle.uriparse_reference.proofs.lemmas.edits.PairEditLemmas.{pairs_put}
use Rattle.uriparse_reference.proofs.uri_reference.URIReference.set_pair.Goals as goal

pub returns-clause-back : goal.returns-clause-back
returns-clause-back c =
    ap (λ ps. map decoded_pair (filter (is_named c.args.name.now) ps)) (pairs_put c.args.self.now c.put_query.new.self c.in_ok-query.query c.put_query.ensures)
    ∙ c.in_ok-query.ensures.back
