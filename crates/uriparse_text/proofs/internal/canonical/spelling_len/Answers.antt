use Rattle.std.proofs.Common.{◌*◌, ◌≤◌, length, arith}
use Rattle.uriparse_text.proofs.lemmas.canonical.ShrunkLemmas.{length_from_shrunk}
use Rattle.uriparse_text.proofs.internal.canonical.spelling_len.Goals as goal

less : (c : goal.After-shrunk_count) → 2 * c.shrunk_count.result ≤ length c.args.text.now
less c = (length_from_shrunk c.args.case c.args.text.now c.shrunk_count.result c.shrunk_count.ensures).0

pub overflow_mul-result : goal.overflow_mul-result
overflow_mul-result c = omega (arith, less c)

pub overflow_sub-result : goal.overflow_sub-result
overflow_sub-result c = less c

pub returns-else-text-lt18 : goal.returns-else-text-lt18
returns-else-text-lt18 c = (length_from_shrunk c.args.case c.args.text.now c.shrunk_count.result c.shrunk_count.ensures).1
