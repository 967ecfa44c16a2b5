use Rattle.std.proofs.Common.{sym, ap, ◌∙◌}
use Rattle.uriparse_text.specs.Bytes.{percent}
use Rattle.uriparse_text.specs.Cuts.{lacks}
use Rattle.uriparse_path.specs.Counts.{counts}
use Rattle.uriparse_path.proofs.lemmas.reading.NoEscapeLemmas.{unrooted_lacks, plain_counts}
use Rattle.uriparse_path.proofs.path.read.counted_path.Goals as goal

pub of-requires-clause-counted : goal.of-requires-clause-counted
of-requires-clause-counted c h =
    let told = c.is_known_canonical-plain.ensures h in
    let rest = c.split_root-absolute.result.1.now in
    let free = ap (lacks percent) c.split_root-absolute.ensures.rest ∙ unrooted_lacks c.args.text.now (c.requires.escaped told.0) in
    c.none.ensures ∙ plain_counts rest free (sym c.in_ok-segments.ensures.segments.1 ∙ told.1) ∙ ap counts (sym c.in_ok-segments.ensures.segments.0)
