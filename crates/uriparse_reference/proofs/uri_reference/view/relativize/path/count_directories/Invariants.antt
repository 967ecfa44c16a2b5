use Rattle.std.proofs.Common.{◌≡◌, ◌+◌, length}
use Rattle.uriparse_reference.specs.RelativeText.{directories}
use Rattle.uriparse_reference.proofs.uri_reference.view.relativize.path.count_directories.Given as goal

abbrev pub invariant-directories : goal.invariant-directories
invariant-directories l = l.count + length (directories l.left) ≡ length (directories l.text)

abbrev pub decreases-directories : goal.decreases-directories
decreases-directories l = length (directories l.left)
