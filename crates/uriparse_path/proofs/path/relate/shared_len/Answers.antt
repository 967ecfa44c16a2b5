use Rattle.std.proofs.Common.{◌∙◌}
use Rattle.uriparse_path.proofs.lemmas.merge.LeadingPathLemmas.{shared_last}
use Rattle.uriparse_path.proofs.path.relate.shared_len.Goals as goal

pub returns-then-shared-segments-clause-apart : goal.returns-then-shared-segments-clause-apart
returns-then-shared-segments-clause-apart c =
    c.directories.invariant.0 ∙ shared_last c.args.directories.now c.args.segments.now c.directories.shared c.if-shared-segments.true
