use Rattle.std.proofs.Common.{◌∙◌, sym}
use Rattle.std.proofs.lemmas.Bool.{false≢true}
use Rattle.uriparse_authority.proofs.lemmas.authorities.SameTextLemmas.{canonical_read}
use Rattle.uriparse_authority.proofs.authority.Authority.prints_normal.Goals as goal

pub returns-then-is_normalized : goal.returns-then-is_normalized
returns-then-is_normalized c =
    let normal = c.is_normalized.ensures.text.0 c.if-is_normalized.true in
    ((λ h. normal ∙ c.is_printed.ensures.0 h), (λ e. c.is_printed.ensures.1 (sym normal ∙ e)))

pub returns-else-is_normalized : goal.returns-else-is_normalized
returns-else-is_normalized c = (
  (λ h. absurd (false≢true (sym c.if-is_normalized.false ∙ h))),
  (λ e. c.is_normalized.ensures.text.1 (e ∙ sym (canonical_read c.args.text.now c.args.self.now c.requires e))),
)
