use Rattle.uriparse_text.proofs.lemmas.readings.CutLemmas.{offset_or_length, take_offset, drop_offset}
use Rattle.uriparse_authority.specs.Authority.{ends_authority}
use Rattle.uriparse_authority.proofs.authority.read.split_before_path.Goals as goal

pub returns-clause-front : goal.returns-clause-front
returns-clause-front c =
    rw (c.split_at.ensures.front, c.unwrap_or.ensures, c.end_of_authority.ensures, offset_or_length ends_authority c.args.text.now)
    (take_offset ends_authority c.args.text.now)

pub returns-clause-rest : goal.returns-clause-rest
returns-clause-rest c =
    rw (c.split_at.ensures.back, c.unwrap_or.ensures, c.end_of_authority.ensures, offset_or_length ends_authority c.args.text.now)
    (drop_offset ends_authority c.args.text.now)
