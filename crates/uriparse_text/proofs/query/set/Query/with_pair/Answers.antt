use Rattle.std.proofs.Common.{rules}
use Rattle.uriparse_text.specs.Pairs.{given, pairs}
use Rattle.uriparse_text.proofs.lemmas.readings.SetLemmas.{set_back, some_pieces}
use Rattle.uriparse_text.proofs.query.set.Query.with_pair.Goals as goal

pub query_of_pieces-requires : goal.query_of_pieces-requires
query_of_pieces-requires c =
    let (ss, written, is) = c.in_ok-text.ensures.text in
    (ss, written, some_pieces _ _ _ ss is)

pub returns-clause-pairs : goal.returns-clause-pairs
returns-clause-pairs c = search rules

pub returns-clause-back : goal.returns-clause-back
returns-clause-back c = set_back (given (c.args.name, c.args.value)) (pairs c.args.self.now) _ c.in_ok-text.ensures.bytes (returns-clause-pairs c)
