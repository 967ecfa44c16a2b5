use Rattle.std.proofs.Common.{◌<◌, [], length}
use Rattle.uri_commands.specs.Outputs.{Sends}
use Rattle.uri_commands.proofs.pending.send.Given as goal

abbrev pub invariant-writes : goal.invariant-writes
invariant-writes g l = record {
  sends : Sends (g.O.Write.contents l.initial.out) (g.O.Write.contents l.out) l.initial.pending.items l.pending.items [];
  some : 0 < length l.pending.items;
}
