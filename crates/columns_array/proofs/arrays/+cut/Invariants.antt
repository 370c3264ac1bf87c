use Rattle.std.proofs.Common.{◌≡◌, ◌+◌, ◌*◌, take}
use Rattle.columns_array.specs.Boxed.{boxed, all_boxed}
use Rattle.columns_slots.specs.Slots.{cut_all, tree_size, trees_size}
use Rattle.columns_array.proofs.arrays.+cut.Given as goal

abbrev pub invariant-structs::slice_all-loop-i : goal.invariant-structs::slice_all-loop-i
invariant-structs::slice_all-loop-i l =
    goal.unvisited-structs::slice_all-loop-i l
    × (all_boxed (take l.i l.values.items) ≡ cut_all (all_boxed (take l.i l.initial.values.items)) l.offset l.length)

abbrev pub decreases-StructArray::slice : goal.decreases-StructArray::slice
decreases-StructArray::slice a = 3 * tree_size a.self.now

abbrev pub decreases-structs::slice_all : goal.decreases-structs::slice_all
decreases-structs::slice_all a = 3 * trees_size (all_boxed a.values.now.items) + 2

abbrev pub decreases-ArrayBox::slice : goal.decreases-ArrayBox::slice
decreases-ArrayBox::slice a = 3 * tree_size (boxed a.self.now) + 1

abbrev pub decreases-FixedSizeListArray::slice : goal.decreases-FixedSizeListArray::slice
decreases-FixedSizeListArray::slice a = 3 * tree_size a.self.now
