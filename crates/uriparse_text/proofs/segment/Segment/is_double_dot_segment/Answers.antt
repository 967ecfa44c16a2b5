use Rattle.uriparse_text.proofs.lemmas.canonical.DotLemmas.{double_by, no_double}
use Rattle.uriparse_text.proofs.segment.Segment.is_double_dot_segment.Goals as goal

pub returns : goal.returns
returns c = double_by c.args.self.now c.eq_bytes.result c.eq_bytes.ensures

pub returns-then-not-may_be_dots : goal.returns-then-not-may_be_dots
returns-then-not-may_be_dots c = no_double c.args.self.now c.may_be_dots.result c.may_be_dots.ensures c.if-not-may_be_dots.true
