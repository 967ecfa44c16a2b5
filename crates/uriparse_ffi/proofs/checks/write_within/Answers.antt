use Rattle.std.proofs.Common.{ap, subst}
use Rattle.uriparse.specs.Uri.{map_error}
use Rattle.uriparse.specs.Within.{IsWithin}
use Rattle.uriparse_reference.specs.View.{Viewed}
use Rattle.uriparse_ffi.specs.Checks.{Tells}
use Rattle.uriparse_ffi.proofs.lemmas.TextLemmas.{no_error, ok_is}
use Rattle.uriparse_ffi.proofs.checks.write_within.Goals as goal

pub returns-in-Ok-clause-checked : goal.returns-in-Ok-clause-checked
returns-in-Ok-clause-checked c p b s k s' k' =
    let same = ap (λ (v : Viewed). v.parts) (ok_is c.in-Ok.uri _ (c.in-Ok.ensures.found p s k)) in
    let written = c.write_within_of.ensures.checked b s' k' in
    (written.0, subst (λ q. Tells (IsWithin q b) c.write_within_of.new.within) same written.1)

pub returns-in-Ok-clause-refused : goal.returns-in-Ok-clause-refused
returns-in-Ok-clause-refused c e h = absurd (no_error c.in-Ok.uri (map_error e) (c.in-Ok.ensures.fault e h))

pub returns-in-Ok-clause-base : goal.returns-in-Ok-clause-base
returns-in-Ok-clause-base c p e s k h = c.write_within_of.ensures.refused e h
