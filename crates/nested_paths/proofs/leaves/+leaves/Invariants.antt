use Rattle.std.proofs.Common.{◌≡◌, ◌+◌, ◌*◌, ◌++◌, drop}
use Rattle.columns_array.specs.Boxed.{boxed, all_boxed}
use Rattle.columns_slots.specs.Slots.{tree_size, trees_size}
use Rattle.nested_paths.specs.Leaves.{leaves_in, have_fixed_list}
use Rattle.nested_paths.specs.Taken.{shown}
use Rattle.nested_paths.proofs.leaves.+leaves.Given as goal

abbrev pub invariant-push_all_leaves-loop-array : goal.invariant-push_all_leaves-loop-array
invariant-push_all_leaves-loop-array l =
    record {
      taken : shown l.leaves.items ++ leaves_in (all_boxed (drop l.array-index l.arrays)) ≡ shown l.fn.leaves.items ++ leaves_in (all_boxed l.arrays);
      fixed : have_fixed_list (all_boxed (drop l.array-index l.arrays)) ≡ have_fixed_list (all_boxed l.arrays);
    }

abbrev pub decreases-push_leaves : goal.decreases-push_leaves
decreases-push_leaves a = 2 * tree_size (boxed a.array.now)

abbrev pub decreases-push_all_leaves : goal.decreases-push_all_leaves
decreases-push_all_leaves a = 2 * trees_size (all_boxed a.arrays.now) + 1
