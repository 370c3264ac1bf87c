use Rattle.std.proofs.Common.{◌≡◌, ◌++◌, length, flat_map}
use Rattle.std.specs.Vec.Iter.{into_iter_items}
use Rattle.struct_iters.specs.Readings.{items_in}
use Rattle.struct_iters.proofs.struct_iter.all_columns.Given as goal

abbrev pub invariant-iters : goal.invariant-iters
invariant-iters g l = l.columns.items ++ flat_map (λ it. (items_in it).readers) (into_iter_items l.left) ≡ flat_map (λ it. (items_in it).readers) l.fn.iters.items

abbrev pub decreases-iters : goal.decreases-iters
decreases-iters g l = length (into_iter_items l.left)
