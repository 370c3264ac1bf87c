-- What a field and a tree have in common where they fit: which nodes may be missing, which may stand any number of times, and where the leaves are (Dremel paper, "Nested columnar storage").
use Rattle.std.specs.Prelude.{Bool, true, false, ◌&&◌}
use Rattle.columns_core.specs.Tree.{TypeTree, t_list, t_large_list, t_struct, t_map, t_extension, FieldTree, field, FieldTrees, no_fields, more_fields}
use Rattle.pq_tree.specs.Physical.{Physical}
use Rattle.pq_tree.specs.Tree.{Tree, leaf, group, Trees, no_trees, tree}
use Rattle.pq_tree.specs.Types.{Info, Repetition, required, optional, repeated}

-- a list of trees: leaves, and what stands under an optional or under a repeated node
mutual
  pub data Bone (A : Type 0) : Type 0 where
    one : A → Bone A
    under_optional : Bones A → Bone A
    under_repeated : Bones A → Bone A

  pub data Bones (A : Type 0) : Type 0 where
    no_bones : Bones A
    bone : Bone A → Bones A → Bones A

abbrev pub and_then : {A : Type 0} → Bones A → Bones A → Bones A
and_then no_bones ys = ys
and_then (bone x xs) ys = bone x (and_then xs ys)

-- A required node is spliced out. Where no leaf is beneath, nothing stands.
abbrev pub under : {A : Type 0} → Repetition → Bones A → Bones A
under repetition no_bones = no_bones
under required (bone x xs) = bone x xs
under optional (bone x xs) = bone (under_optional (bone x xs)) no_bones
under repeated (bone x xs) = bone (under_repeated (bone x xs)) no_bones

-- ---- of a tree

-- a leaf of a tree, with what it says of itself
pub record StoredLeaf : Type 0 where
  pub info : Info
  pub physical : Physical

abbrev mutual
  pub tree_bones : Tree → Bones StoredLeaf
  tree_bones (leaf info physical) = under info.repetition (bone (one (record { info = info; physical = physical })) no_bones)
  tree_bones (group info children) = under info.repetition (trees_bones children)

  pub trees_bones : Trees → Bones StoredLeaf
  trees_bones no_trees = no_bones
  trees_bones (tree t ts) = and_then (tree_bones t) (trees_bones ts)

-- ---- of a field

-- a leaf of a field: its type, and whether it may be null
pub record ArrowLeaf : Type 0 where
  pub data_type : TypeTree
  pub is_nullable : Bool

abbrev pub repetition_of : Bool → Repetition
repetition_of true = optional
repetition_of false = required

-- Lists and maps repeat their item, a struct is its fields, an extension goes by its inner type, and every other type is a leaf: dictionaries, fixed-size lists and unions too.
abbrev mutual
  pub type_bones : Bool → TypeTree → Bones ArrowLeaf
  type_bones is_nullable (t_list item) = under repeated (field_bones item)
  type_bones is_nullable (t_large_list item) = under repeated (field_bones item)
  type_bones is_nullable (t_map entry is_sorted) = under repeated (field_bones entry)
  type_bones is_nullable (t_struct fields) = fields_bones fields
  type_bones is_nullable (t_extension name inner metadata) = type_bones is_nullable inner
  type_bones is_nullable t = bone (one (record { data_type = t; is_nullable = is_nullable })) no_bones

  pub field_bones : FieldTree → Bones ArrowLeaf
  field_bones (field name t is_nullable metadata) = under (repetition_of is_nullable) (type_bones is_nullable t)

  pub fields_bones : FieldTrees → Bones ArrowLeaf
  fields_bones no_fields = no_bones
  fields_bones (more_fields f fs) = and_then (field_bones f) (fields_bones fs)

-- ---- compared

-- the same trees, with leaves that go together
abbrev mutual
  pub same_bone : {A B : Type 0} → (A → B → Bool) → Bone A → Bone B → Bool
  same_bone go_together (one a) (one b) = go_together a b
  same_bone go_together (under_optional xs) (under_optional ys) = same_bones go_together xs ys
  same_bone go_together (under_repeated xs) (under_repeated ys) = same_bones go_together xs ys
  same_bone go_together a b = false

  pub same_bones : {A B : Type 0} → (A → B → Bool) → Bones A → Bones B → Bool
  same_bones go_together no_bones no_bones = true
  same_bones go_together (bone x xs) (bone y ys) = same_bone go_together x y && same_bones go_together xs ys
  same_bones go_together xs ys = false
