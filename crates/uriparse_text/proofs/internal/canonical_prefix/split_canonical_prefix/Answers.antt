use Rattle.std.proofs.Common.{sym, subst, true}
use Rattle.uriparse_text.specs.Spelling.{IsValidText}
use Rattle.uriparse_text.proofs.lemmas.canonical.CanonicalPrefixLemmas.{canonical_take}
use Rattle.uriparse_text.proofs.internal.canonical_prefix.split_canonical_prefix.Goals as goal

pub returns-clause-front : goal.returns-clause-front
returns-clause-front c =
    let class = c.args.class in
    let case = c.args.case in
    let text = c.args.bytes.now in
    let len = c.canonical_prefix_len.result in
    subst (λ u. IsValidText class case true u) (sym c.split_at.ensures.front) (canonical_take class case text len c.canonical_prefix_len.ensures.offset true)
