use Rattle.uriparse_text.proofs.lemmas.scans.PairLemmas.{pair_kind}
use Rattle.uriparse_text.proofs.internal.canonical_escape.is_canonical_escape.Goals as goal

pub returns : goal.returns
returns c = pair_kind c.args.high c.args.low c.ranges.high.fits c.ranges.low.fits c.requires.high c.requires.low
