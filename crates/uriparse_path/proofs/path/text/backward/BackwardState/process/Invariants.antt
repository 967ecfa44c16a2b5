use Rattle.std.proofs.Common.{length}
use Rattle.std.specs.List.{slice_split}
use Rattle.uriparse_path.specs.Path.{is_slash}
use Rattle.uriparse_path.specs.Last.{IsLast}
use Rattle.uriparse_path.proofs.lemmas.left.BackwardLemmas.{Walked}
use Rattle.uriparse_path.proofs.path.text.backward.BackwardState.process.Given as goal

abbrev pub invariant-dots : goal.invariant-dots
invariant-dots l = record {
  walked : Walked l.form l.ended (slice_split is_slash l.text) (slice_split is_slash l.rest) l.initial.state l.state l.initial.out l.out;
  last : IsLast l.last l.rest;
}

abbrev pub decreases-dots : goal.decreases-dots
decreases-dots l = length l.rest
