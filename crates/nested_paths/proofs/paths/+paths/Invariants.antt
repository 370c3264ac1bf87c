use Rattle.std.proofs.Common.{◌≡◌, ◌+◌, ◌*◌, ◌++◌, drop}
use Rattle.columns_array.specs.Boxed.{boxed, all_boxed}
use Rattle.columns_slots.specs.Slots.{tree_size, trees_size}
use Rattle.levels.specs.Nested.{parts_of}
use Rattle.pq_tree.specs.TreeViews.{trees_view}
use Rattle.nested_paths.specs.Kinds.{kinds_in, kinds_of, kinds_below, all_kinds}
use Rattle.nested_paths.specs.Paths.{below, paths_in, misfits}
use Rattle.nested_paths.specs.Taken.{all_parts}
use Rattle.nested_paths.proofs.paths.+paths.Given as goal

abbrev pub invariant-push_all_paths-loop-i : goal.invariant-push_all_paths-loop-i
invariant-push_all_paths-loop-i l =
    record {
      taken :
          all_parts l.found.items ++ below (parts_of l.parents) (paths_in (all_boxed (drop l.i l.arrays)) (trees_view (drop l.i l.nodes)))
          ≡ all_parts l.fn.found.items ++ below (parts_of l.parents) (paths_in (all_boxed l.arrays) (trees_view l.nodes));
      kinds :
          all_kinds l.found.items ++ kinds_below (kinds_of l.parents) (kinds_in (all_boxed (drop l.i l.arrays)))
          ≡ all_kinds l.fn.found.items ++ kinds_below (kinds_of l.parents) (kinds_in (all_boxed l.arrays));
      fits : misfits (all_boxed (drop l.i l.arrays)) (trees_view (drop l.i l.nodes)) ≡ misfits (all_boxed l.arrays) (trees_view l.nodes);
    }

abbrev pub decreases-push_paths : goal.decreases-push_paths
decreases-push_paths a = 2 * tree_size (boxed a.array.now)

abbrev pub decreases-push_all_paths : goal.decreases-push_all_paths
decreases-push_all_paths a = 2 * trees_size (all_boxed a.arrays.now) + 1
