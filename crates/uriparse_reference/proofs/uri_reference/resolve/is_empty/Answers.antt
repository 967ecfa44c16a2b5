use Rattle.std.proofs.Common.{sym, arith}
use Rattle.uriparse_reference.proofs.lemmas.resolving.ResolveLemmas.{several}
use Rattle.uriparse_reference.proofs.uri_reference.resolve.is_empty.Goals as goal

pub returns-in_default-2 : goal.returns-in_default-2
returns-in_default-2 c = sym (several c.args.path.now (rw (sym c.segments.ensures.value) (omega (arith, c.in_default.len_at_least))))
