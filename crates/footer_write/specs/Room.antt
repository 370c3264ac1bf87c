-- The room of a footer, tree by tree.
use Rattle.std.specs.Prelude.{ℕ, ◌+◌, length, sum_by}
use Rattle.pq_tree.specs.Tree.{Tree, leaf, group, Trees, no_trees, tree}
use Rattle.pq_tree.specs.Types.{Info}
use Rattle.pq_files.specs.FooterRecord.{FileMetaData}
use Rattle.pq_files.specs.Room.{key_room, group_room}

abbrev pub info_room : Info → ℕ
info_room i = 128 + length i.name

abbrev mutual
  pub tree_room : Tree → ℕ
  tree_room (leaf info p) = info_room info
  tree_room (group info ts) = info_room info + trees_room ts

  pub trees_room : Trees → ℕ
  trees_room no_trees = 0
  trees_room (tree t ts) = tree_room t + trees_room ts

abbrev pub walked_room : FileMetaData → ℕ
walked_room m = 4224 + length m.schema.name + trees_room m.schema.fields + sum_by key_room m.keys + sum_by group_room m.row_groups
