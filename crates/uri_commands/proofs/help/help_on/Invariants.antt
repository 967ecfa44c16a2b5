use Rattle.std.proofs.Common.{◌≡◌, ◌-◌, drop}
use Rattle.uri_commands.specs.Help.{topics}
use Rattle.uri_commands.proofs.HelpLemmas.{named}
use Rattle.uri_commands.proofs.help.help_on.Given as goal

abbrev pub invariant-topics : goal.invariant-topics
invariant-topics g l = record {
  left : named l.name (drop l.place topics) ≡ named l.name topics;
  kept : g.O.Write.contents l.out ≡ g.O.Write.contents l.initial.out;
}

abbrev pub decreases-topics : goal.decreases-topics
decreases-topics g l = 29 - l.place
