use Rattle.uriparse_text.proofs.lemmas.tokens.TokenLemmas.{tokens-escape, tokens-byte}
use Rattle.uriparse_text.proofs.internal.token.first_token.Goals as goal

pub returns-then-is_escape-clause-cut : goal.returns-then-is_escape-clause-cut
returns-then-is_escape-clause-cut c = tokens-escape c.args.b c.args.after.now (cc)

pub returns-else-is_escape-clause-cut : goal.returns-else-is_escape-clause-cut
returns-else-is_escape-clause-cut c = tokens-byte c.args.b c.args.after.now (cc)
