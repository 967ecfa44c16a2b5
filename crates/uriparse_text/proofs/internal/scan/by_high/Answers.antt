use Rattle.uriparse_text.proofs.lemmas.scans.LaneLemmas.{high_ok, looked_up_high}
use Rattle.uriparse_text.proofs.internal.scan.by_high.Goals as goal

pub swizzle : goal.swizzle
swizzle c = high_ok c.args.lanes c.fits-lanes

pub returns : goal.returns
returns c = looked_up_high c.args.table c.args.lanes c.fits-lanes
