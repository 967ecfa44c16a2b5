use Rattle.uriparse_text.proofs.lemmas.readings.CutLemmas.{offset_or_length, take_offset, drop_offset}
use Rattle.uriparse_scheme.specs.Cuts.{ends_scheme}
use Rattle.uriparse_scheme.proofs.scheme.split.split_at_scheme_end.Goals as goal

pub returns-clause-front : goal.returns-clause-front
returns-clause-front c =
    rw (c.split_at.ensures.front, c.unwrap_or.ensures, c.end_of_scheme.ensures, offset_or_length ends_scheme c.args.text.now)
    (take_offset ends_scheme c.args.text.now)

pub returns-clause-rest : goal.returns-clause-rest
returns-clause-rest c =
    rw (c.split_at.ensures.back, c.unwrap_or.ensures, c.end_of_scheme.ensures, offset_or_length ends_scheme c.args.text.now)
    (drop_offset ends_scheme c.args.text.now)
