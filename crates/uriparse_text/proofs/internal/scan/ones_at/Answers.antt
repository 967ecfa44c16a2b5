use Rattle.uriparse_text.proofs.lemmas.scans.LaneLemmas.{ones_where}
use Rattle.uriparse_text.proofs.internal.scan.ones_at.Goals as goal

pub returns : goal.returns
returns c = ones_where c.args.lanes c.args.byte c.fits-lanes
