use Rattle.std.proofs.Common.{ap, ◌∙◌, ◌+◌, cond}
use Rattle.uriparse_path.proofs.lemmas.list.SegmentCountLemmas.{make, counts_undotted, counts_dotted}
use Rattle.uriparse_path.proofs.path.counts.Counts.without_dots.Goals as goal

pub returns-clause-plain : goal.returns-clause-plain
returns-clause-plain c ss h k e = ap (λ n. make n 0 0 0) (c.one_more.ensures ∙ ap (λ v. 0 + cond v 1 0) e) ∙ counts_undotted ss h k

pub returns-clause-dotted : goal.returns-clause-dotted
returns-clause-dotted c ss h k e = ap (λ n. make n 0 0 0) (c.one_more.ensures ∙ ap (λ v. 0 + cond v 1 0) e) ∙ counts_dotted ss h k
