use Rattle.std.proofs.lemmas.List.{take_rest}
use Rattle.uriparse_text.proofs.lemmas.canonical.ComparisonLemmas.{after_common}
use Rattle.uriparse_text.proofs.lemmas.canonical.OrderLemmas.{follow}
use Rattle.uriparse_text.proofs.lemmas.tokens.CodingLemmas.{after_compared, after_represented}
use Rattle.uriparse_text.proofs.internal.equivalence.after_common.Goals as goal

pub returns-clause-same : goal.returns-clause-same
returns-clause-same c case =
    rw (take_rest c.args.left.now c.common_run-common.result, take_rest c.args.right.now c.common_run-common.result)
    (after_common case c.common_run-common.result c.args.left.now c.args.right.now c.common_run-common.ensures.common c.common_run-common.ensures.within.0
    c.common_run-common.ensures.within.1)

pub returns-clause-represents : goal.returns-clause-represents
returns-clause-represents c =
    rw (take_rest c.args.left.now c.common_run-common.result, take_rest c.args.right.now c.common_run-common.result)
    (after_represented c.common_run-common.result c.args.left.now c.args.right.now c.common_run-common.ensures.common
    c.common_run-common.ensures.within.0 c.common_run-common.ensures.within.1)

pub returns-clause-compared : goal.returns-clause-compared
returns-clause-compared c =
    rw (take_rest c.args.left.now c.common_run-common.result, take_rest c.args.right.now c.common_run-common.result)
    (after_compared c.common_run-common.result c.args.left.now c.args.right.now c.common_run-common.ensures.common
    c.common_run-common.ensures.within.0 c.common_run-common.ensures.within.1)

pub returns-clause-front : goal.returns-clause-front
returns-clause-front c case =
    rw (take_rest c.args.left.now c.common_run-common.result, take_rest c.args.right.now c.common_run-common.result)
    (follow case c.common_run-common.result c.args.left.now c.args.right.now c.common_run-common.ensures.common c.common_run-common.ensures.within.0
    c.common_run-common.ensures.within.1)
