use Rattle.std.proofs.Common.{◌≡◌, sym, ap, subst, ◌∙◌}
use Rattle.std.specs.Prelude.{string_bytes}
use Rattle.uriparse_reference.specs.View.{Viewed}
use Rattle.uriparse_reference.proofs.lemmas.reading.OwnedTextLemmas.{stands}
use Rattle.uriparse.specs.Kinds.{IsOfKind}
use Rattle.uriparse.proofs.text_of.TextOf.try_from_string.Goals as goal

pub returns-in-Ok-clause-only : goal.returns-in-Ok-clause-only
returns-in-Ok-clause-only g c = λ p s k.
    let same : c.in-Ok.text.parts ≡ p = ap (λ (v : Viewed). v.parts) c.in-Ok.ensures.fault ∙ (stands (string_bytes c.args.text) p s).1 in
    c.of.ensures.only (subst (IsOfKind g.K.ReferenceKind.has_scheme) (sym same) k)

pub returns-in-Err-clause-only : goal.returns-in-Err-clause-only
returns-in-Err-clause-only g c = λ p s k. c.in-Err.ensures.only p s
