use Rattle.uriparse_text.proofs.lemmas.tokens.PieceLemmas.{escaped-escape}
use Rattle.uriparse_text.proofs.internal.coding.EscapingRewriting.token.Goals as goal

pub returns-then-is_escape-clause-written : goal.returns-then-is_escape-clause-written
returns-then-is_escape-clause-written c = escaped-escape c.args.self.now.0 c.args.self.now.1.now c.args.b c.args.after.now (cc)
