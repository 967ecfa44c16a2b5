use Rattle.uri_commands.proofs.EditLemmas.{words_next, words_within}
use Rattle.uri_commands.proofs.edit.changes.Goals as goal

pub words-preserved : goal.words-preserved
words-preserved c = record {
  within = words_within c.args.words.now c.words.at c.in-Some.count c.words.invariant.within c.in-Some.ensures.bounds.1;
  edits =
      words_next c.args.words.now c.words.at c.in-Some.count _ _ c.in-Some.change c.words.invariant.edits c.in-Some.ensures.edits
      c.in_ok-push.ensures.items;
}
