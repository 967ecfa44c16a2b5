use Rattle.std.proofs.Common.{◌≡◌, ◌+◌, ◌≤◌, length, drop}
use Rattle.std.specs.Net.Text as text
use Rattle.uriparse_text.proofs.address.printed.longest_zero_run.Given as goal

abbrev pub invariant-loop-i : goal.invariant-loop-i
invariant-loop-i l = record {
  run : l.run ≡ text.zero_run (drop l.i l.segments);
  len : l.len ≡ (text.longest_zero_run (drop l.i l.segments)).1;
  start : l.start ≡ l.i + (text.longest_zero_run (drop l.i l.segments)).0;
  inside : l.i + l.run ≤ length l.segments;
  within : l.start + l.len ≤ length l.segments;
}
