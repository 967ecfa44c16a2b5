use Rattle.std.proofs.Common.{ap, ◌∙◌}
use Rattle.uriparse.specs.Uri.{map_error}
use Rattle.uriparse_reference.specs.Target.{target}
use Rattle.uriparse_reference.specs.View.{Viewed}
use Rattle.uriparse_ffi.proofs.lemmas.TextLemmas.{no_error, ok_is}
use Rattle.uriparse_ffi.proofs.texts.write_target.Goals as goal

pub returns-in-Ok-clause-written : goal.returns-in-Ok-clause-written
returns-in-Ok-clause-written c b r t s k s' h =
    c.write_target_of.ensures.written r t s' (ap (λ (v : Viewed). target v.parts r) (ok_is c.in-Ok.base _ (c.in-Ok.ensures.found b s k)) ∙ h)

pub returns-in-Ok-clause-base : goal.returns-in-Ok-clause-base
returns-in-Ok-clause-base c e h = absurd (no_error c.in-Ok.base (map_error e) (c.in-Ok.ensures.fault e h))

pub returns-in-Ok-clause-reference : goal.returns-in-Ok-clause-reference
returns-in-Ok-clause-reference c b e s k h = c.write_target_of.ensures.refused e h
