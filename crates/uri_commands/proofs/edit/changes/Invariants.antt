use Rattle.std.proofs.Common.{◌≡◌, ◌-◌, ◌≤◌, ◌++◌, drop, length, map}
use Rattle.std.specs.Option.{option_map}
use Rattle.uri_commands.specs.Edits.{edit_of, edits_of}
use Rattle.uri_commands.proofs.edit.changes.Given as goal

abbrev pub invariant-words : goal.invariant-words
invariant-words l = record {
  within : l.at ≤ length l.words;
  edits : edits_of (map (λ w. w.now) l.words) ≡ option_map (λ es. map edit_of l.changes.items ++ es)
      (edits_of (map (λ w. w.now) (drop l.at l.words)));
}

abbrev pub decreases-words : goal.decreases-words
decreases-words l = length l.words - l.at
