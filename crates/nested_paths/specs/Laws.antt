-- The laws of paths.
use Rattle.std.specs.Prelude.{◌≡◌, ℕ, ◌+◌, ◌<◌, None, map}
use Rattle.shredding.specs.Shape.{ways}
use Rattle.columns_slots.specs.Tree.{ArrayTree}
use Rattle.columns_slots.specs.Slots.{slots, cut, IsSound}
use Rattle.pq_tree.specs.Tree.{Tree, leaves}
use Rattle.nested_paths.specs.Leaves.{array_leaves}
use Rattle.nested_paths.specs.Levels.{path_levels, leaf_levels}
use Rattle.nested_paths.specs.Paths.{misfit, paths}
use Rattle.nested_paths.specs.Seen.{read_by, shape_by, leaf_slot, AreSeen}

-- The paths of an array, each with its leaf array, are the slots of the array along the way to each leaf, masks of required nodes not
-- looked at. They are in bounds, and have a slot for each of the array.
abbrev pub PathsAreSeen : Type 0
PathsAreSeen =
    (a : ArrayTree) (node : Tree) → IsSound a → misfit a node ≡ None → AreSeen (slots (read_by a node)) (ways (shape_by a node)) (paths a node) (array_leaves a)

-- There is a path for each leaf of the tree, in order, and it has the leaf's greatest levels.
abbrev pub PathsHaveLevels : Type 0
PathsHaveLevels = (a : ArrayTree) (node : Tree) → misfit a node ≡ None → map path_levels (paths a node) ≡ map leaf_levels (leaves node)

-- A cut of a leaf array has, at each position and whatever its own mask says, the slot that the whole array had there.
abbrev pub CutLeavesAreSeen : Type 0
CutLeavesAreSeen = (a : ArrayTree) (o n i : ℕ) → i < n → leaf_slot (cut a o n) i ≡ leaf_slot a (o + i)
