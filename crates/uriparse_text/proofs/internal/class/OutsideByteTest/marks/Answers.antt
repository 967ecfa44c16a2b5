use Rattle.uriparse_text.specs.declared.internal.class.Class.TheVariants.{Name, UserInfo, Segment, Query}
use Rattle.uriparse_text.proofs.lemmas.scans.LaneLemmas.{class_marks, name_kinds, user_info_kinds, segment_kinds, query_kinds}
use Rattle.uriparse_text.proofs.internal.class.OutsideByteTest.marks.Goals as goal
use Rattle.uriparse_text.proofs.internal.class.OutsideByteTest.marks.Goals.{in-Name, in-UserInfo, in-Segment, in-Query}

pub returns : goal.returns
returns c = elim c.match-self.branch [
  | in-Name w ↦ rw (w.kinds-is, w.in-Name.is) (class_marks 31 Name c.args.lanes _ _ c.fits-lanes name_kinds c.by_low.ensures c.by_high.ensures)
  | in-UserInfo w ↦ rw (w.kinds-is, w.in-UserInfo.is) (class_marks 63 UserInfo c.args.lanes _ _ c.fits-lanes user_info_kinds c.by_low.ensures c.by_high.ensures)
  | in-Segment w ↦ rw (w.kinds-is, w.in-Segment.is) (class_marks 127 Segment c.args.lanes _ _ c.fits-lanes segment_kinds c.by_low.ensures c.by_high.ensures)
  | in-Query w ↦ rw (w.kinds-is, w.in-Query.is) (class_marks 255 Query c.args.lanes _ _ c.fits-lanes query_kinds c.by_low.ensures c.by_high.ensures)
]
