use Rattle.std.proofs.Common.{sym}
use Rattle.uriparse_ffi.proofs.lemmas.ParseLemmas.{no_first_fault}
use Rattle.uriparse_c.proofs.uriparse_first_fault.Goals as goal

pub returns-in-Some-clause-accepted : goal.returns-in-Some-clause-accepted
returns-in-Some-clause-accepted c p s = absurd (no_first_fault c.args.text.now p _ s (sym c.in-Some.ensures.fault))
