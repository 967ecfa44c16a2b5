use Rattle.std.proofs.Common.{Ok, sym, ap, ◌∙◌}
use Rattle.uriparse_ffi.proofs.lemmas.TextLemmas.{no_ok, no_relative, ok_is}
use Rattle.uriparse_ffi.proofs.texts.view_uri.Goals as goal

pub returns-then-has_scheme-clause-found : goal.returns-then-has_scheme-clause-found
returns-then-has_scheme-clause-found c p s k = ap Ok (ok_is c.in-Ok.view _ (c.in-Ok.ensures.only p s))

pub returns-then-has_scheme-clause-relative : goal.returns-then-has_scheme-clause-relative
returns-then-has_scheme-clause-relative c p s other =
    absurd (no_relative c.args.text.now c.in-Ok.view.parts p c.in-Ok.ensures.found (sym c.has_scheme.ensures ∙ c.if-has_scheme.true) s other)

pub returns-else-has_scheme-clause-found : goal.returns-else-has_scheme-clause-found
returns-else-has_scheme-clause-found c p s k =
    absurd (no_relative c.args.text.now p c.in-Ok.view.parts s k c.in-Ok.ensures.found (sym c.has_scheme.ensures ∙ c.if-has_scheme.false))

pub returns-in-Err-clause-found : goal.returns-in-Err-clause-found
returns-in-Err-clause-found c p s k = absurd (no_ok c.in-Err.error _ (c.in-Err.ensures.only p s))

pub returns-in-Err-clause-relative : goal.returns-in-Err-clause-relative
returns-in-Err-clause-relative c p s other = absurd (no_ok c.in-Err.error _ (c.in-Err.ensures.only p s))
