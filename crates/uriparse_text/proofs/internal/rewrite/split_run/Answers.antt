use Rattle.std.proofs.Common.{◌++◌, ap, sym, drop, take, ◌∙◌}
use Rattle.uriparse_text.specs.Cuts.{from_first}
use Rattle.uriparse_text.proofs.lemmas.readings.CutLemmas.{drop_offset, take_offset}
use Rattle.uriparse_text.proofs.lemmas.tokens.PieceLemmas.{rewritten-run}
use Rattle.uriparse_text.proofs.internal.rewrite.split_run.Goals as goal

pub returns-clause-run : goal.returns-clause-run
returns-clause-run g c =
    c.split_at.ensures.front ∙ ap (λ n. take n c.args.text.now) c.run_len.ensures.offset ∙ take_offset (g.R.ByteTest.passes c.args.way.now) c.args.text.now

pub returns-clause-rest : goal.returns-clause-rest
returns-clause-rest g c =
    c.split_at.ensures.back ∙ ap (λ n. drop n c.args.text.now) c.run_len.ensures.offset ∙ drop_offset (g.R.ByteTest.passes c.args.way.now) c.args.text.now

pub returns-clause-kept : goal.returns-clause-kept
returns-clause-kept g c =
    let p = g.R.ByteTest.passes c.args.way.now in
    let f = g.R.Rewriting.rewritten c.args.way.now in
    rewritten-run p f c.requires.keeps c.args.text.now ∙ ap (λ u. u ++ f (from_first p c.args.text.now)) (sym (returns-clause-run g c))
    ∙ ap (λ u. c.split_at.result.0.now ++ f u) (sym (returns-clause-rest g c))
