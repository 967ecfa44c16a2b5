use Rattle.std.proofs.Common.{sym, ◌∙◌, bit_or}
use Rattle.std.specs.Int.{bit_at}
use Rattle.uriparse_text.proofs.lemmas.canonical.ComparisonLemmas.{pair_mask, sign_mask, mark_within, unmarked}
use Rattle.uriparse_text.proofs.internal.equivalence.marks_of_pair.Goals as goal

pub returns-clause-within : goal.returns-clause-within
returns-clause-within g c k set =
    let pairs = pair_mask c.args.left.now c.args.right.now c.args.at g.row.N c.requires.left c.requires.right c.requires.few in
    let signs = sign_mask c.args.left.now c.args.right.now c.args.at g.row.N c.requires.left c.requires.right c.requires.few in
    mark_within c.args.left.now c.args.right.now c.args.at g.row.N c.requires.left c.requires.right k (sym (λ i. bit_at (bit_or (pairs i) (signs i)) k) ∙ set)

pub returns-clause-common : goal.returns-clause-common
returns-clause-common g c k h clear =
    let pairs = pair_mask c.args.left.now c.args.right.now c.args.at g.row.N c.requires.left c.requires.right c.requires.few in
    let signs = sign_mask c.args.left.now c.args.right.now c.args.at g.row.N c.requires.left c.requires.right c.requires.few in
    unmarked c.args.left.now c.args.right.now c.args.at g.row.N c.requires.left c.requires.right k h (sym (λ i. bit_at (bit_or (pairs i) (signs i)) k) ∙ clear)
