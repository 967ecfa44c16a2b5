use Rattle.std.proofs.Common.{◌≡◌, ◌++◌, length, map, take, drop}
use Rattle.uriparse_text.specs.Ahead.{marked}
use Rattle.uriparse_text.proofs.query.ahead.mark.Given as goal

abbrev pub invariant-loop-at : goal.invariant-loop-at
invariant-loop-at l =
    (length l.answers ≡ 64)
    × (take l.at l.answers ++ marked l.fn.pattern (map (λ s. s.now) (drop l.at l.fn.names)) (drop l.at l.answers)
    ≡ marked l.fn.pattern (map (λ s. s.now) l.fn.names) l.initial.answers)
