use Rattle.uriparse_text.proofs.lemmas.scans.LaneLemmas.{low_ok, looked_up_low}
use Rattle.uriparse_text.proofs.internal.scan.by_low.Goals as goal

pub swizzle : goal.swizzle
swizzle c = low_ok c.args.lanes c.fits-lanes

pub returns : goal.returns
returns c = looked_up_low c.args.table c.args.lanes c.fits-lanes
