use Rattle.std.proofs.Common.{subst}
use Rattle.uriparse_reference.specs.Change.{changing}
use Rattle.uriparse_ffi.specs.Changes.{IsChanged}
use Rattle.uriparse_ffi.proofs.changes.write_changed_of.Goals as goal

pub returns : goal.returns
returns c =
    subst (λ w. IsChanged (changing w c.args.view.now.text) c.args.out.now c.write_with.new.out c.write_with.new.needed c.write_with.result)
    c.changes_in-changes.ensures c.write_with.ensures
