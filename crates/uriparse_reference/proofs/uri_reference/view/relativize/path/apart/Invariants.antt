use Rattle.std.proofs.Common.{◌≡◌, length}
use Rattle.uriparse_reference.specs.RelativeText.{apart_of, directories}
use Rattle.uriparse_reference.proofs.uri_reference.view.relativize.path.apart.Given as goal

abbrev pub invariant-directories : goal.invariant-directories
invariant-directories l = apart_of l.base l.target ≡ apart_of l.left l.rest

abbrev pub decreases-directories : goal.decreases-directories
decreases-directories l = length (directories l.left)
