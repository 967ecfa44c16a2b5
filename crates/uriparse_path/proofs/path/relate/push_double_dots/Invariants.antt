use Rattle.std.proofs.Common.{◌≡◌, ◌++◌, take}
use Rattle.uriparse_path.specs.Relate.{double_dots}
use Rattle.uriparse_path.proofs.path.relate.push_double_dots.Given as goal

abbrev pub invariant-loop-directory : goal.invariant-loop-directory
invariant-loop-directory l = l.list.items ≡ l.fn.list.items ++ double_dots (take l._directory-index l.directories)
