use Rattle.std.proofs.Common.{◌≡◌, ◌≤◌, false}
use Rattle.std.specs.List.{slice_split}
use Rattle.uriparse_path.specs.Path.{is_slash}
use Rattle.uriparse_path.specs.Dots.{has_dot_segment}
use Rattle.uriparse_path.proofs.lemmas.left.BackwardLemmas.{Walked}
use Rattle.uriparse_path.proofs.path.text.backward.BackwardState.stretch.Given as goal

abbrev pub invariant-removed : goal.invariant-removed
invariant-removed l = record {
  walked : Walked l.form l.ended (slice_split is_slash l.text) (slice_split is_slash l.rest) l.initial.state l.state l.initial.out l.out;
  dots : has_dot_segment (slice_split is_slash l.rest) ≡ false;
  few : l.state.double_dots ≤ l.initial.state.double_dots;
}

abbrev pub decreases-removed : goal.decreases-removed
decreases-removed l = l.state.double_dots
