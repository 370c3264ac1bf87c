-- Which nodes of a tree stand for a list, a struct and a leaf (Parquet format, LogicalTypes, "Nested Types"; parquet.thrift,
-- FieldRepetitionType).
use Rattle.std.specs.Prelude.{Bool, true, false, not, cond, nat_eq, Option, Some, None}
use Rattle.pq_tree.specs.Tree.{Tree, leaf, group, Trees, no_trees, tree, defines, repeats}
use Rattle.pq_tree.specs.Types.{Info}

-- the node may stand any number of times: it adds a repetition level
abbrev pub is_repeated : Info → Bool
is_repeated info = nat_eq (repeats info.repetition) 1

abbrev pub info_of : Tree → Info
info_of (leaf info p) = info
info_of (group info ts) = info

-- what the node stands for may be missing: it adds a definition level
abbrev pub is_optional : Tree → Bool
is_optional node = nat_eq (defines (info_of node).repetition) 1

-- the answer on what is there, or the one for nothing
abbrev pub given : {A B : Type 0} → B → (A → B) → Option A → B
given none f None = none
given none f (Some x) = f x

-- the children of a group that is repeated, or is not, as is asked
abbrev pub children_in : Bool → Tree → Option Trees
children_in true (leaf info p) = None
children_in true (group info ts) = cond (is_repeated info) (Some ts) None
children_in false (leaf info p) = None
children_in false (group info ts) = cond (is_repeated info) None (Some ts)

abbrev pub only_tree : Trees → Option Tree
only_tree no_trees = None
only_tree (tree t no_trees) = Some t
only_tree (tree t (tree u ts)) = None

-- The only child of a group, which is repeated or is not, as is asked.
abbrev pub only_child : Bool → Tree → Option Tree
only_child asked node = given None only_tree (children_in asked node)

-- The item of a node that stands for a list or a map: the node is a group that is not repeated, its only child is a repeated group, and
-- the item is the only child of that.
abbrev pub item_node : Tree → Option Tree
item_node node = given None (only_child true) (only_child false node)

-- The fields of a node that stands for a struct, which is a group that is not repeated.
abbrev pub field_nodes : Tree → Option Trees
field_nodes node = children_in false node

-- a node that stands for a leaf
abbrev pub is_leaf_node : Tree → Bool
is_leaf_node (leaf info p) = not (is_repeated info)
is_leaf_node (group info ts) = false
