use Rattle.std.proofs.Common.{◌≡◌, ◌++◌, take}
use Rattle.uriparse_text.proofs.internal.rewrite.push_run.Given as goal

abbrev pub invariant-loop-b : goal.invariant-loop-b
invariant-loop-b l = l.bytes.items ≡ l.initial.bytes.items ++ take l.b-index l.run
