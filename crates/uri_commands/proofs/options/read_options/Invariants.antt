use Rattle.std.proofs.Common.{◌-◌, ◌≡◌, ◌≤◌, drop, length}
use Rattle.uri_commands.specs.Options.{read}
use Rattle.uri_commands.proofs.OptionLemmas.{bytes}
use Rattle.uri_commands.proofs.options.read_options.Given as goal

abbrev pub invariant-options : goal.invariant-options
invariant-options l = record {
  within : l.at ≤ length l.words;
  left : read l.options (bytes (drop l.at l.words)) ≡ read l.fn.before (bytes l.words);
}

abbrev pub decreases-options : goal.decreases-options
decreases-options l = length l.words - l.at
