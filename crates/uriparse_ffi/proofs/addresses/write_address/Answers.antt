use Rattle.std.proofs.Common.{ap, ◌∙◌}
use Rattle.std.specs.Option.{option_and_then}
use Rattle.uriparse_reference.specs.Reference.{host_of}
use Rattle.uriparse_reference.specs.View.{Viewed}
use Rattle.uriparse_ffi.specs.Addresses.{address_bytes}
use Rattle.uriparse_ffi.specs.Code as spec
use Rattle.uriparse_ffi.proofs.lemmas.TextLemmas.{no_error, no_ok, ok_is}
use Rattle.uriparse_ffi.proofs.addresses.write_address.Goals as goal

pub returns-in-Ok-clause-written : goal.returns-in-Ok-clause-written
returns-in-Ok-clause-written c p b s h =
    let same = ok_is c.in-Ok.view _ (c.in-Ok.ensures.found p s) in
    c.write_address_in.ensures.written b (ap (λ (v : Viewed). option_and_then address_bytes (host_of v.parts)) same ∙ h)

pub returns-in-Ok-clause-without : goal.returns-in-Ok-clause-without
returns-in-Ok-clause-without c p s h =
    let same = ok_is c.in-Ok.view _ (c.in-Ok.ensures.found p s) in
    c.write_address_in.ensures.without (ap (λ (v : Viewed). option_and_then address_bytes (host_of v.parts)) same ∙ h)

pub returns-in-Ok-clause-refused : goal.returns-in-Ok-clause-refused
returns-in-Ok-clause-refused c e h = absurd (no_error c.in-Ok.view (spec.code_of e) (c.in-Ok.ensures.fault e h))

pub returns-in-Err-clause-written : goal.returns-in-Err-clause-written
returns-in-Err-clause-written c p b s h = absurd (no_ok c.in-Err.code _ (c.in-Err.ensures.found p s))

pub returns-in-Err-clause-without : goal.returns-in-Err-clause-without
returns-in-Err-clause-without c p s h = absurd (no_ok c.in-Err.code _ (c.in-Err.ensures.found p s))
