use Rattle.std.proofs.Common.{◌≡◌, ◌++◌, Some, length, map}
use Rattle.std.specs.Vec.Iter.{into_iter_items}
use Rattle.struct_iters.proofs.open.open_all.Given as goal

abbrev pub invariant-readers : goal.invariant-readers
invariant-readers g l = l.columns.items ++ map Some (into_iter_items l.left) ≡ map Some l.fn.readers.items

abbrev pub decreases-readers : goal.decreases-readers
decreases-readers g l = length (into_iter_items l.left)
