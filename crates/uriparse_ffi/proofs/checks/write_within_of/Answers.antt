use Rattle.uriparse.specs.Uri.{map_error}
use Rattle.uriparse_ffi.proofs.lemmas.TextLemmas.{no_error}
use Rattle.uriparse_ffi.proofs.checks.write_within_of.Goals as goal

pub returns-in-Ok-clause-refused : goal.returns-in-Ok-clause-refused
returns-in-Ok-clause-refused c e h = absurd (no_error c.in-Ok.base (map_error e) (c.in-Ok.ensures.fault e h))
