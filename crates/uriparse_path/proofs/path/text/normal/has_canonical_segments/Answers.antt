use Rattle.uriparse_path.proofs.lemmas.text.CanonicalPiecesLemmas.{canonical_split}
use Rattle.uriparse_path.proofs.path.text.normal.has_canonical_segments.Goals as goal

pub returns : goal.returns
returns c = canonical_split c.args.text.now c.is_canonical.result c.requires c.is_canonical.ensures
