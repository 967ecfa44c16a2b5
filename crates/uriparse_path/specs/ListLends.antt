-- The list of a path's segments after a `&mut` to them has ended.
use Rattle.std.specs.Prelude.{List, length}
use Rattle.std.specs.List.{refill}
use Rattle.std.specs.Borrow.{Lends, MutBor, Fml, Array, RattleType}
use Rattle.uriparse_path.specs.List.{with_elements}
use Rattle.uriparse_path.specs.declared.path.list.Storage.{Storage}
use Rattle.uriparse_path.specs.declared.path.counts.Dotted.{Ghosts}
use Rattle.uriparse_path.specs.contracts.path.list.Storage.{the_row}
use Rattle.uriparse_path.specs.contracts.path.list.SegmentList as list

module _ (S : RattleType) (D : Ghosts S.Denot) where
  -- the elements are those last written through r
  abbrev pub lends_storage : MutBor (Storage S.Denot) → MutBor (List S.Denot) → Fml
  lends_storage k r = Lends (the_row S) (Array S 0) k r (with_elements k.now)

  abbrev pub lends_list : MutBor (List S.Denot) → MutBor (List S.Denot) → Fml
  lends_list l r = Lends (list.the_row S) (Array S 0) l r (refill (length l.now) l.now)
