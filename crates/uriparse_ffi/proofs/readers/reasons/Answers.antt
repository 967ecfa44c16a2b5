use Rattle.std.proofs.Common.{ap, Ok, ◌∙◌}
use Rattle.uriparse_reference.specs.View.{Viewed}
use Rattle.uriparse_ffi.specs.Readers.{disagreement_flags}
use Rattle.uriparse_ffi.proofs.lemmas.TextLemmas.{no_ok, ok_is}
use Rattle.uriparse_ffi.proofs.readers.reasons.Goals as goal

pub returns-in-Ok-clause-checked : goal.returns-in-Ok-clause-checked
returns-in-Ok-clause-checked c p s =
    let same = ok_is c.in-Ok.view _ (c.in-Ok.ensures.found p s) in
    ap Ok (c.reasons_of.ensures ∙ ap (λ (v : Viewed). disagreement_flags v.parts) same)

pub returns-in-Err-clause-checked : goal.returns-in-Err-clause-checked
returns-in-Err-clause-checked c p s = absurd (no_ok c.in-Err.code _ (c.in-Err.ensures.found p s))
