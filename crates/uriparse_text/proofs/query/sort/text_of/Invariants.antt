use Rattle.std.proofs.Common.{◌≡◌, map, take}
use Rattle.uriparse_text.specs.Written.{ended}
use Rattle.uriparse_text.proofs.query.sort.text_of.Given as goal

abbrev pub invariant-loop-piece : goal.invariant-loop-piece
invariant-loop-piece l = l.text.items ≡ ended (map (λ s. s.now) (take l.piece-index l.pieces))
