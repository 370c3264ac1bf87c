use Rattle.std.proofs.Common.{◌≡◌, ◌+◌, ◌*◌}
use Rattle.shredding.specs.Parts.{slots_from}
use Rattle.columns_slots.specs.Slots.{slot_at, tree_size, trees_size}
use Rattle.columns_array.specs.Boxed.{boxed, all_boxed}
use Rattle.columns_array.specs.Cells.{cell_size}
use Rattle.columns_array.proofs.Same.{AreSameTo}
use Rattle.columns_array.proofs.arrays.equal.+same.Given as goal

abbrev pub decreases-is_same_slot : goal.decreases-is_same_slot
decreases-is_same_slot l = 3 * tree_size (boxed l.a.now)

abbrev pub decreases-is_same_cell : goal.decreases-is_same_cell
decreases-is_same_cell l = 3 * cell_size l.a.now + 2

abbrev pub decreases-is_same_run : goal.decreases-is_same_run
decreases-is_same_run l = 3 * tree_size (boxed l.a.now) + 1

abbrev pub decreases-are_same_fields : goal.decreases-are_same_fields
decreases-are_same_fields l = 3 * trees_size (all_boxed l.a.now) + 1

abbrev pub invariant-are_same_fields-loop-k : goal.invariant-are_same_fields-loop-k
invariant-are_same_fields-loop-k l = AreSameTo l.k l.a l.i l.b l.j

abbrev pub invariant-is_same_run-loop-k : goal.invariant-is_same_run-loop-k
invariant-is_same_run-loop-k l = slots_from (slot_at (boxed l.a)) l.a_from l.k ≡ slots_from (slot_at (boxed l.b)) l.b_from l.k
