use Rattle.uriparse_path.proofs.lemmas.left.DirectoryLemmas.{none_below, rest_below}
use Rattle.uriparse_path.proofs.path.within.is_in_directory.Goals as goal

pub returns-in-Some-strip_directory : goal.returns-in-Some-strip_directory
returns-in-Some-strip_directory g c =
    rest_below (g.L.SegmentSequence.listed c.args.segments) (g.L.SegmentSequence.listed c.args.base) (g.L.SegmentSequence.listed c.in-Some.directory) _
    c.in-Some.last c.are_unambiguous.result c.in-Some.ensures c.in-Some-strip_directory.ensures c.are_unambiguous.ensures

pub returns : goal.returns
returns g c =
    none_below (g.L.SegmentSequence.listed c.args.segments) (g.L.SegmentSequence.listed c.args.base) (g.L.SegmentSequence.listed c.in-Some.directory)
    c.in-Some.last c.in-Some.ensures c.in-None.ensures
