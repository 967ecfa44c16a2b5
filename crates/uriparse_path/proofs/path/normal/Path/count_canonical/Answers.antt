use Rattle.std.proofs.Common.{◌≤◌, length, sym, subst}
use Rattle.uriparse_path.proofs.lemmas.list.SegmentCountLemmas.{fits}
use Rattle.uriparse_path.proofs.path.normal.Path.count_canonical.Goals as goal

pub of-self-inside-requires-clause-short : goal.of-self-inside-requires-clause-short
of-self-inside-requires-clause-short c =
    subst (λ l. length l ≤ 4294967295) (sym c.as_slice.ensures) (fits c.self.inside.segments c.self.invariant.short)
