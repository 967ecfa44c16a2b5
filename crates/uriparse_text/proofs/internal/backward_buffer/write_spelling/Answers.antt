use Rattle.std.proofs.Common.{[], length, sym, ◌∙◌, arith, take_all}
use Rattle.uriparse_text.specs.Canonical.{canonical_in}
use Rattle.uriparse_text.proofs.lemmas.canonical.RunLemmas.{spelling_keeps}
use Rattle.uriparse_text.proofs.lemmas.tokens.StartLemmas.{starts_none}
use Rattle.uriparse_text.proofs.internal.backward_buffer.write_spelling.Goals as goal

pub append_rewritten-requires : goal.append_rewritten-requires
append_rewritten-requires c = spelling_keeps c.args.case

pub returns-else-only_raises : goal.returns-else-only_raises
returns-else-only_raises c =
    let starts = c.append_rewritten.ensures.appends [] (starts_none c.args.out.now) in
    let room = c.append_rewritten.ensures.room in
    let given = c.requires in
    sym (take_all (length (canonical_in c.args.case c.args.text.now)) c.append_rewritten.new.out (omega arith)) ∙ starts.fits (omega arith)
