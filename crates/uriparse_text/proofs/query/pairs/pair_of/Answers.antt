use Rattle.std.proofs.Common.{sym, ap, subst, ◌∙◌}
use Rattle.std.specs.Option.{option_copied}
use Rattle.uriparse_text.specs.Cuts.{part}
use Rattle.uriparse_text.specs.Query.{IsQuery}
use Rattle.uriparse_text.proofs.lemmas.readings.PairLemmas.{pair_texts, some_query}
use Rattle.uriparse_text.proofs.query.pairs.pair_of.Goals as goal

pub checked_text-requires : goal.checked_text-requires
checked_text-requires c =
    some_query _ c.in-Some.value.now (pair_texts c.args.piece.now c.requires).1
    (ap part (sym c.split_at_delimiter.ensures.rest) ∙ sym c.without_delimiter.ensures ∙ ap option_copied c.in-Some.is)

pub checked_text-requires-2 : goal.checked_text-requires-2
checked_text-requires-2 c = subst IsQuery (sym c.split_at_delimiter.ensures.front) (pair_texts c.args.piece.now c.requires).0
