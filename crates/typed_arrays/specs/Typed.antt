-- Arrays that are written by the trees of their types (Parquet format, LogicalTypes).
use Rattle.std.specs.Prelude.{◌≡◌, ℕ, Bool, None, All, List, [], ◌∷◌}
use Rattle.shredding.specs.Shape.{IsOf, Way, ways}
use Rattle.columns_core.specs.Shapes.{leaf_type, type_shape}
use Rattle.columns_slots.specs.Slots.{IsSound, slots, type_of}
use Rattle.columns_slots.specs.Tree.{ArrayTree}
use Rattle.nested_paths.specs.Leaves.{array_leaves}
use Rattle.nested_paths.specs.Paths.{misfit}
use Rattle.nested_paths.specs.Seen.{read_by, shape_by}
use Rattle.pq_headline.specs.Columns.{ArrowColumn, type_columns}
use Rattle.pq_tree.specs.Tree.{Tree}
use Rattle.columns_core.specs.Tree.{TypeTree}
use Rattle.schema_to_tree.specs.Table.{named, repetition_of, type_tree}

-- the tree of a field of this name and type, which may be null or not
abbrev pub node : List ℕ → Bool → TypeTree → Tree
node name b t = type_tree (named name (repetition_of b)) t

-- for each way, with the array of its leaf, a column
abbrev pub AreAlong : List Way → List ArrayTree → List ArrowColumn → Type 0
AreAlong [] [] [] = Unit {0}
AreAlong (w ∷ ws) (a ∷ arrays) (c ∷ cs) = (c.way ≡ w) × (leaf_type (type_of a) ≡ leaf_type c.data_type) × AreAlong ws arrays cs
AreAlong _ _ _ = ⊥

-- The ways of the array as the tree of its type has them are those of the type's columns, and each leaf has the values of its column.
abbrev pub TypedColumnsAreOwn : Type 0
TypedColumnsAreOwn = (a : ArrayTree) (name : List ℕ) (b : Bool) → IsSound a → misfit a (node name b (type_of a)) ≡ None → AreAlong (ways (shape_by a (node name b (type_of a)))) (array_leaves a) (type_columns b (type_of a))

-- Where the slots of an array are those of a field of its type, the tree of the type reads them all: masks that it does not look at hide none.
abbrev pub TypedSlotsAreRead : Type 0
TypedSlotsAreRead = (a : ArrayTree) (name : List ℕ) (b : Bool) → IsSound a → All (IsOf (type_shape b (type_of a))) (slots a) → slots (read_by a (node name b (type_of a))) ≡ slots a
