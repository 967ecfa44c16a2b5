use Rattle.uriparse_text.proofs.lemmas.canonical.ChangedLemmas.{canonical_escape}
use Rattle.uriparse_text.proofs.internal.token.Token.is_canonical.Goals as goal

pub returns-in-Escape : goal.returns-in-Escape
returns-in-Escape c =
    rw (c.in-Escape.is) (canonical_escape c.args.case c.in-Escape.high c.in-Escape.low c.is_canonical_escape.result c.is_canonical_escape.ensures)
