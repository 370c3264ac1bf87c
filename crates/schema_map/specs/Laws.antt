-- Laws of fields and the trees that they are written as.
use Rattle.std.specs.Prelude.{◌≡◌, ◌≤◌, ◌↔◌, true}
use Rattle.columns_core.specs.Measures.{field_nesting}
use Rattle.columns_core.specs.Tree.{FieldTree, FieldTrees, no_fields, more_fields}
use Rattle.pq_tree.specs.Tree.{Tree, Trees, no_trees, tree, Schema, nesting}
use Rattle.schema_fit.specs.Fits.{agrees_with, fits_to}
use Rattle.schema_map.specs.Rows.{HasRows}
use Rattle.schema_to_tree.specs.Conditions.{AreWritten, IsWritten}
use Rattle.schema_to_tree.specs.Table.{schema_of, tree_of}

-- they fit, and whether they do may be asked: neither nests too deep
pub record IsFitting (f : FieldTree) (t : Tree) : Type 0 where
  pub field_depth : field_nesting f ≤ 128
  pub tree_depth : nesting t ≤ 128
  pub fits : fits_to f t ≡ true

-- The tree that a field is written as fits it, where pages have the values of each of its leaves.
abbrev pub WrittenFieldsFit : Type 0
WrittenFieldsFit = (f : FieldTree) (t : Tree) → (t ≡ tree_of f) × IsWritten f → HasRows f → IsFitting f t

-- Field by field, in order: where pages have the field's values it fits the tree that stands at its place.
abbrev pub EachFits : FieldTrees → Trees → Type 0
EachFits no_fields no_trees = Unit {0}
EachFits (more_fields f fs) (tree t ts) = (HasRows f → IsFitting f t) × EachFits fs ts
EachFits fs ts = ⊥

-- The same of all fields of a schema.
abbrev pub WrittenSchemasFit : Type 0
WrittenSchemasFit = (fs : FieldTrees) (s : Schema) → (s ≡ schema_of fs) × AreWritten fs → EachFits fs s.fields

-- A field fits its tree exactly where each of its leaves has a row, written or not.
abbrev pub RowsDecide : Type 0
RowsDecide = (f : FieldTree) → (fits_to f (tree_of f) ≡ true) ↔ HasRows f

-- Whatever fits agrees.
abbrev pub FittingFieldsAgree : Type 0
FittingFieldsAgree = (f : FieldTree) (t : Tree) → fits_to f t ≡ true → agrees_with f t ≡ true
