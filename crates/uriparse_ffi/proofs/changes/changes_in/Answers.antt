use Rattle.uriparse_ffi.proofs.lemmas.ChangeLemmas.{each_wish}
use Rattle.uriparse_ffi.proofs.changes.changes_in.Goals as goal

pub change_at-requires-3 : goal.change_at-requires-3
change_at-requires-3 c = (each_wish c.args.values.now c.args.wanted.now c.requires).0

pub change_at-requires-4 : goal.change_at-requires-4
change_at-requires-4 c = (each_wish c.args.values.now c.args.wanted.now c.requires).1

pub change_at-requires-5 : goal.change_at-requires-5
change_at-requires-5 c = (each_wish c.args.values.now c.args.wanted.now c.requires).2

pub change_at-requires-6 : goal.change_at-requires-6
change_at-requires-6 c = (each_wish c.args.values.now c.args.wanted.now c.requires).3

pub change_at-requires-7 : goal.change_at-requires-7
change_at-requires-7 c = (each_wish c.args.values.now c.args.wanted.now c.requires).4

pub change_at-requires-8 : goal.change_at-requires-8
change_at-requires-8 c = (each_wish c.args.values.now c.args.wanted.now c.requires).5
