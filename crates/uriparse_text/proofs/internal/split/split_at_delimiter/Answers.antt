use Rattle.std.specs.Prelude.{◌==◌}
use Rattle.uriparse_text.proofs.lemmas.readings.CutLemmas.{take_offset, drop_offset}
use Rattle.uriparse_text.proofs.internal.split.split_at_delimiter.Goals as goal

pub returns-clause-front : goal.returns-clause-front
returns-clause-front c = rw (c.split_at.ensures.front, c.first.ensures.offset) (take_offset (λ b. b == c.args.delimiter) c.args.text.now)

pub returns-clause-rest : goal.returns-clause-rest
returns-clause-rest c = rw (c.split_at.ensures.back, c.first.ensures.offset) (drop_offset (λ b. b == c.args.delimiter) c.args.text.now)
