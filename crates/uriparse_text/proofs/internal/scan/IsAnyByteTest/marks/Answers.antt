use Rattle.uriparse_text.proofs.lemmas.scans.LaneLemmas.{any_marks}
use Rattle.uriparse_text.proofs.internal.scan.IsAnyByteTest.marks.Goals as goal

pub returns : goal.returns
returns c =
    any_marks c.args.self.now.0 c.args.self.now.1 c.args.self.now.2 c.args.lanes _ _ _ c.fits-lanes c.ones_at.ensures c.ones_at-2.ensures c.ones_at-3.ensures
