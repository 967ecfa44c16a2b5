use Rattle.std.proofs.Common.{sym, ◌∙◌}
use Rattle.uriparse_path.proofs.lemmas.dots.AmbiguousSegmentLemmas.{ambiguous-canonical}
use Rattle.uriparse_path.proofs.path.within.is_ambiguous.Goals as goal

pub returns : goal.returns
returns c = c.is_ambiguous.ensures ∙ sym (ambiguous-canonical c.args.segment.now c.as_bytes-bytes.ensures.class)
