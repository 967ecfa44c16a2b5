use Rattle.std.proofs.Common.{rules}
use Rattle.uriparse_text.proofs.lemmas.printing.WriterLemmas.{displays, displays_styled}
use Rattle.uriparse_text.proofs.internal.print.write_plain.Goals as goal

pub returns-clause-writes : goal.returns-clause-writes
returns-clause-writes g c = displays _ (g.D.Display.output c.args.value) _ c.write.new.self _ _ c.write.ensures.writes (search rules)

pub returns-clause-styled : goal.returns-clause-styled
returns-clause-styled g c = displays_styled _ (g.D.Display.output c.args.value) _ c.write.new.self _ _ c.write.ensures.writes (search rules)
