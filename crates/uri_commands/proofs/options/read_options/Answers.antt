use Rattle.std.proofs.Common.{sym, ◌∙◌}
use Rattle.uri_commands.proofs.OptionLemmas.{read_goes, read_left, within}
use Rattle.uri_commands.proofs.options.read_options.Goals as goal

pub options-preserved : goal.options-preserved
options-preserved c = record {
  within = within c.options.at c.in-Some.count c.args.words.now c.options.invariant.within c.in-Some.ensures.bounds.1;
  left = read_goes c.options.options c.in-Some.more c.args.words.now c.options.at c.in-Some.count _ c.options.invariant.left (sym c.read.ensures.option ∙ c.in-Some.is);
}

pub returns : goal.returns
returns c = read_left c.options.options c.args.words.now c.options.at _ c.options.invariant.left (sym c.read.ensures.option ∙ c.in_default.is)
