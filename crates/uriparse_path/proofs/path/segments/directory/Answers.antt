use Rattle.std.proofs.Common.{◌-◌, length, arith}
use Rattle.uriparse_path.proofs.lemmas.list.EditLemmas.{all_but_last-take}
use Rattle.uriparse_path.proofs.path.segments.directory.Goals as goal

pub returns : goal.returns
returns c = all_but_last-take c.args.segments.now (length c.args.segments.now - 1) (omega (arith, c.requires))
