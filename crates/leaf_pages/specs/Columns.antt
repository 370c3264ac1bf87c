-- The column of one leaf array along its path, and the page of it (Parquet format, "Data Pages", "Nested Encoding").
use Rattle.std.specs.Prelude.{◌≡◌, ◌⊎◌, Bool, None, List, [], ◌∷◌, true, false}
use Rattle.columns_base.specs.declared.error.A.TheVariants.{A7, A8}
use Rattle.columns_base.specs.declared.error.Error.{Error}
use Rattle.columns_base.specs.declared.error.Error.TheVariants.{InvalidArgumentError}
use Rattle.columns_core.specs.Shapes.{base, leaf_type}
use Rattle.columns_slots.specs.Slots.{mask_of, tree_len, type_of}
use Rattle.columns_slots.specs.Tree.{ArrayTree, leaf_array}
use Rattle.columns_slots.specs.Types.{is_null_type}
use Rattle.levels.specs.Nested.{parts_of}
use Rattle.levels.specs.declared.nested.Nested.{Nested}
use Rattle.nested_paths.specs.Nodes.{is_optional}
use Rattle.nested_paths.specs.Seen.{leaf_slot}
use Rattle.pq_files.specs.Page.{Encoding}
use Rattle.pq_pages.specs.DataPages.{DataPageValue}
use Rattle.pq_tree.specs.Physical.{Physical}
use Rattle.pq_tree.specs.TreeViews.{leaf_view}
use Rattle.pq_tree.specs.Views.{physical_view}
use Rattle.pq_tree.specs.declared.types.PrimitiveType.{PrimitiveType}
use Rattle.shredding.specs.Parts.{IsPath, Part, leaf_part, path_slots, path_way}
use Rattle.shredding.specs.Shred.{Triple, column}
use Rattle.shredding.specs.Slot.{Slot}
use Rattle.write_pages.specs.Fits.{FitsColumn, is_written_in}
use Rattle.write_pages.specs.Holds.{HoldsRows}
use Rattle.write_pages.specs.Refused.{HasWide, IsPastRoom}
use Rattle.write_pages.specs.declared.options.WriteOptions.{WriteOptions}

-- A column of one leaf: the leaf's node, the path to it, and its array.
pub record PathColumn : Type 0 where
  pub type_ : PrimitiveType
  pub parts : List Part
  pub array : ArrayTree

-- along a path
abbrev pub column_along : PrimitiveType → List Nested → ArrayTree → PathColumn
column_along type_ nested a = record { type_ = type_; parts = parts_of nested; array = a }

-- of no more than its leaf, which is optional as the type is
abbrev pub leaf_column : PrimitiveType → ArrayTree → PathColumn
leaf_column type_ a = record { type_ = type_; parts = leaf_part (is_optional (leaf_view type_)) (mask_of a) (tree_len a) ∷ []; array = a }

abbrev pub column_physical : PathColumn → Physical
column_physical c = physical_view c.type_.physical_type

-- the rows that the path stands for over the array, and their pairs of levels
abbrev pub column_rows : PathColumn → List Slot
column_rows c = path_slots (leaf_slot c.array) c.parts

abbrev pub column_pairs : PathColumn → List Triple
column_pairs c = column (path_way c.parts) (column_rows c)

-- the path and the type fit the array
unfoldable pub FitsArray : PathColumn → Type 0
FitsArray c = FitsColumn c.parts (column_rows c) (leaf_view c.type_) (column_physical c) c.array

-- whether pages have values of the array's type
abbrev pub is_in_pages : ArrayTree → Bool
is_in_pages a = is_written_in true (base (type_of a))

-- an array of values: neither one of nulls alone, nor one of arrays or of keys
abbrev pub IsValueArray : ArrayTree → Type 0
IsValueArray (leaf_array t vs m) = Unit {0}
IsValueArray a = ⊥

-- a decimal is past what its physical type holds
unfoldable pub IsTooWide : PathColumn → Type 0
IsTooWide c = HasWide (leaf_type (type_of c.array)) (column_physical c) (column_pairs c)

-- the room of the page passes the sizes of a header
unfoldable pub IsTooLarge : PathColumn → Type 0
IsTooLarge c = IsPastRoom (leaf_type (type_of c.array)) (column_physical c) (column_pairs c)

-- The page holds the rows of the column, in the encoding, with statistics exactly where they are asked for.
unfoldable pub IsPageAlong : WriteOptions → Encoding → PathColumn → DataPageValue → Type 0
IsPageAlong o e c page = HoldsRows o e (leaf_type (type_of c.array)) (leaf_view c.type_) (column_physical c) (path_way c.parts) None (column_rows c) page

-- Pages have values of the array's type, no nulls alone, along the path, which is well formed and, as the type, fits the array.
pub record IsOfValues (c : PathColumn) : Type 0 where
  pub well : IsPath c.parts
  pub fits : FitsArray c
  pub written : is_in_pages c.array ≡ true
  pub some : is_null_type (base (type_of c.array)) ≡ false

-- Why a column is none of values, or has one that is not stored: the first that holds.
abbrev pub MisfitsAlong : PathColumn → Error → Type 0
MisfitsAlong c e = ((e ≡ InvalidArgumentError A8) × ¬ IsOfValues c) ⊎ ((e ≡ InvalidArgumentError A7) × IsOfValues c × IsTooWide c)
