use Rattle.std.proofs.Common.{ap, Ok, ◌∙◌}
use Rattle.uriparse_reference.specs.Key.{key}
use Rattle.uriparse_reference.specs.View.{Viewed}
use Rattle.uriparse_ffi.specs.Hash.{hash_of}
use Rattle.uriparse_ffi.proofs.lemmas.TextLemmas.{no_ok, ok_is}
use Rattle.uriparse_ffi.proofs.texts.hashed.Goals as goal

pub returns-in-Ok-clause-hashed : goal.returns-in-Ok-clause-hashed
returns-in-Ok-clause-hashed c p s =
    ap Ok (c.hash_of_reference.ensures ∙ ap (λ (v : Viewed). hash_of (key v.parts)) (ok_is c.in-Ok.reference _ (c.in-Ok.ensures.found p s)))

pub returns-in-Err-clause-hashed : goal.returns-in-Err-clause-hashed
returns-in-Err-clause-hashed c p s = absurd (no_ok c.in-Err.code _ (c.in-Err.ensures.found p s))
