use Rattle.std.specs.Option.{option_copied}
use Rattle.uriparse_text.proofs.lemmas.readings.WithoutLemmas.{left_of}
use Rattle.uriparse.proofs.lemmas.FileLemmas.{Writing}
use Rattle.uriparse.proofs.file.segments_text.Given as goal

abbrev pub invariant-loop-rest : goal.invariant-loop-rest
invariant-loop-rest l = Writing l.path (option_copied l.rest) l.text.items

abbrev pub decreases-loop-rest : goal.decreases-loop-rest
decreases-loop-rest l = left_of (option_copied l.rest)
