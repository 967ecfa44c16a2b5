use Rattle.std.proofs.Common.{◌≤◌, rules, sym}
use Rattle.std.proofs.lemmas.Option.{slice_get_past}
use Rattle.uri_commands.specs.Help.{topics}
use Rattle.uri_commands.proofs.commands.topic.Goals as goal

pub returns-in_default-clause-topic : goal.returns-in_default-clause-topic
unfolding topics
returns-in_default-clause-topic c = let past : 29 ≤ c.args.place = search rules in sym (slice_get_past topics c.args.place past)
