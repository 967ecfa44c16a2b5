use Rattle.std.proofs.Common.{ap, Ok, ◌∙◌}
use Rattle.std.specs.Prelude.{bytes_eq}
use Rattle.uriparse_reference.specs.Key.{key}
use Rattle.uriparse_reference.specs.View.{Viewed}
use Rattle.uriparse_ffi.proofs.lemmas.TextLemmas.{no_ok, ok_is}
use Rattle.uriparse_ffi.proofs.texts.equal_texts.Goals as goal

pub returns-in-Ok-clause-compared : goal.returns-in-Ok-clause-compared
returns-in-Ok-clause-compared c p q s s' =
    c.equal_to.ensures.compared q s' ∙ ap (λ (v : Viewed). Ok (bytes_eq (key v.parts) (key q))) (ok_is c.in-Ok.left _ (c.in-Ok.ensures.found p s))

pub returns-in-Err-clause-compared : goal.returns-in-Err-clause-compared
returns-in-Err-clause-compared c p q s s' = absurd (no_ok c.in-Err.code _ (c.in-Err.ensures.found p s))

pub returns-in-Err-clause-right : goal.returns-in-Err-clause-right
returns-in-Err-clause-right c p e s h = absurd (no_ok c.in-Err.code _ (c.in-Err.ensures.found p s))
