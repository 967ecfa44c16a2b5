use Rattle.uriparse_text.proofs.lemmas.canonical.CanonicalLemmas.{same_tokens}
use Rattle.uriparse_text.proofs.internal.equivalence.same_spelling.Goals as goal

pub returns-else-eq : goal.returns-else-eq
returns-else-eq c =
    let alike = same_tokens c.args.case c.args.bytes.now c.args.text.now c.requires in
    (λ h. alike.0 (c.same_tokens.ensures.0 h), λ s. c.same_tokens.ensures.1 (alike.1 s))
