-- The footer that a reader finds in what is written: what was given, but for what is not written. That is the field ids of nodes, and the precision and scale of a group's converted type, which count as 0.
use Rattle.std.specs.Prelude.{◌≡◌, ◌≤◌, map, Option, Some, None}
use Rattle.pq_metadata.specs.Footer.{Footer}
use Rattle.pq_tree.specs.Physical.{Physical}
use Rattle.pq_tree.specs.Tree.{Schema, Tree, leaf, group, Trees, no_trees, tree}
use Rattle.pq_tree.specs.Types.{Converted, Info}
use Rattle.pq_files.specs.FooterRecord.{FileMetaData, group_meta}

abbrev pub without_id : Info → Info
without_id i = record { name = i.name; repetition = i.repetition; id = None; converted = i.converted; logical = i.logical }

abbrev pub without_numbers : Option Converted → Option Converted
without_numbers (Some (Converted.decimal precision scale)) = Some (Converted.decimal 0 0)
without_numbers c = c

-- of a group
abbrev pub bare : Info → Info
bare i = record { name = i.name; repetition = i.repetition; id = None; converted = without_numbers i.converted; logical = i.logical }

abbrev mutual
  pub tree_told : Tree → Tree
  tree_told (leaf info p) = leaf (without_id info) p
  tree_told (group info ts) = group (bare info) (trees_told ts)

  pub trees_told : Trees → Trees
  trees_told no_trees = no_trees
  trees_told (tree t ts) = tree (tree_told t) (trees_told ts)

-- ---- a reader takes no fixed length of 0

abbrev pub HasLength : Physical → Type 0
HasLength (Physical.fixed n) = 1 ≤ n
HasLength _ = Unit {0}

abbrev mutual
  pub TreeHasLengths : Tree → Type 0
  TreeHasLengths (leaf info p) = HasLength p
  TreeHasLengths (group info ts) = HasLengths ts

  pub HasLengths : Trees → Type 0
  HasLengths no_trees = Unit {0}
  HasLengths (tree t ts) = TreeHasLengths t × HasLengths ts

-- ---- the footer

abbrev pub schema_told : Schema → Schema
schema_told s = record { name = s.name; fields = trees_told s.fields }

abbrev pub footer_told : FileMetaData → Footer
footer_told m = record { schema = schema_told m.schema; groups = map group_meta m.row_groups; keys = m.keys }

-- ---- trees that are read as they are

-- the precision and scale of a group have no fields
abbrev pub HasNoNumbers : Option Converted → Type 0
HasNoNumbers (Some (Converted.decimal precision scale)) = (precision ≡ 0) × (scale ≡ 0)
HasNoNumbers _ = Unit {0}

-- no node has a field id, no leaf the fixed length 0, and no group a precision or scale
abbrev mutual
  pub TreeIsTold : Tree → Type 0
  TreeIsTold (leaf info p) = (info.id ≡ None) × HasLength p
  TreeIsTold (group info ts) = (info.id ≡ None) × HasNoNumbers info.converted × AreTold ts

  pub AreTold : Trees → Type 0
  AreTold no_trees = Unit {0}
  AreTold (tree t ts) = TreeIsTold t × AreTold ts
