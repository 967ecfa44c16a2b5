use Rattle.std.proofs.Common.{ap, Ok, ◌∙◌}
use Rattle.std.specs.Prelude.{bytes_eq}
use Rattle.uriparse_reference.specs.Key.{key}
use Rattle.uriparse_reference.specs.View.{Viewed}
use Rattle.uriparse_ffi.proofs.lemmas.TextLemmas.{no_ok, ok_is}
use Rattle.uriparse_ffi.proofs.texts.equal_to.Goals as goal

pub returns-in-Ok-clause-compared : goal.returns-in-Ok-clause-compared
returns-in-Ok-clause-compared c q s =
    ap Ok (c.eq.ensures ∙ ap (λ (v : Viewed). bytes_eq (key c.args.left.now.parts) (key v.parts)) (ok_is c.in-Ok.right _ (c.in-Ok.ensures.found q s)))

pub returns-in-Err-clause-compared : goal.returns-in-Err-clause-compared
returns-in-Err-clause-compared c q s = absurd (no_ok c.in-Err.code _ (c.in-Err.ensures.found q s))
