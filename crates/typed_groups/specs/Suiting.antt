-- Chunks of arrays that are written as groups of a schema that is settled (Parquet format, "Row groups", "Nested Encoding").
use Rattle.std.specs.Prelude.{◌≡◌, ◌⊎◌, Bool, true, All, List, length, map, Vec}
use Rattle.std.specs.Global.{Global}
use Rattle.shredding.specs.Shape.{AreOf}
use Rattle.columns_base.specs.declared.error.Error.{Error}
use Rattle.columns_base.specs.declared.error.A.TheVariants.{A7}
use Rattle.columns_base.specs.declared.error.Error.TheVariants.{InvalidArgumentError, Memory, Overflow}
use Rattle.columns_base.specs.declared.error.V.TheVariants.{V3}
use Rattle.columns_array.specs.Chunks.{AreEven}
use Rattle.columns_core.specs.Shapes.{shapes_of}
use Rattle.columns_core.specs.Tree.{FieldTrees}
use Rattle.columns_slots.specs.Slots.{IsSound, AreTyped}
use Rattle.columns_slots.specs.Tree.{ArrayTrees, no_arrays, more_arrays}
use Rattle.pq_files.specs.Layout.{OutGroup}
use Rattle.pq_headline.specs.Arrays.{rows_of, all_entries}
use Rattle.pq_headline.specs.Columns.{schema_columns}
use Rattle.pq_headline.specs.Openings.{CanBeWritten}
use Rattle.pq_headline.specs.Output.{HasWideDecimal, IsLaidGroup, PieceIsTooLarge, all_chosen}
use Rattle.pq_headline.specs.Served.{are_served_fields}
use Rattle.pq_tree.specs.Tree.{Trees, columns_of}
use Rattle.pq_tree.specs.TreeViews.{trees_view}
use Rattle.pq_tree.specs.declared.types.Encoding.{Encoding}
use Rattle.pq_tree.specs.declared.types.ParquetType.{ParquetType}
use Rattle.schema_to_tree.specs.Conditions.{AreWritten}
use Rattle.schema_to_tree.specs.Table.{schema_of}
use Rattle.write_file.specs.Pages.{SomeRefuses}
use Rattle.write_groups.specs.Columns.{AreSoMany, RefusesFields}
use Rattle.write_groups.specs.Given.{RefusesColumn}
use Rattle.write_groups.specs.Laid.{AreChosen, style_of}
use Rattle.write_groups.specs.Writing.{HasColumns, IsGroupOf}
use Rattle.write_groups.specs.declared.group.RowGroupIter.{RowGroupIter}
use Rattle.write_pages.specs.declared.options.WriteOptions.{WriteOptions}

-- each array is sound
abbrev pub AreAllSound : ArrayTrees → Type 0
AreAllSound no_arrays = Unit {0}
AreAllSound (more_arrays c cs) = IsSound c × AreAllSound cs

-- The arrays are those of the fields: of their types and of one length, and their rows are rows of the schema. They are to be written by the trees of
-- the fields, which can be written and are served, each leaf in the encoding that is chosen, with deltas or without.
pub record Suits (wants_deltas : Bool) (fs : FieldTrees) (o : WriteOptions) (chunk : ArrayTrees) (trees : Trees) (ess : List (List Encoding)) : Type 0 where
  pub sound : AreAllSound chunk
  pub typed : AreTyped fs chunk
  pub even : AreEven chunk
  pub rows_are : All (AreOf (shapes_of fs)) (rows_of chunk)
  pub trees_are : trees ≡ (schema_of fs).fields
  pub written : AreWritten fs
  pub held : CanBeWritten fs
  pub served : are_served_fields fs ≡ true
  pub encodings : AreChosen wants_deltas fs trees ess

-- the same of a chunk whose columns are there
abbrev pub IsSuiting : Bool → FieldTrees → RowGroupIter → Type 0
IsSuiting wants_deltas fs g = Suits wants_deltas fs g.options g.chunk (trees_view g.fields.items) (map (λ es. es.items) g.encodings.items)

-- There are as many lists of encodings and as many trees as arrays, and nothing stands against the columns but a decimal that its column does not hold.
pub record IsTaken (fs : FieldTrees) (o : WriteOptions) (chunk : ArrayTrees) (encodings : List (Vec Encoding Global)) (trees : List ParquetType) : Type 0 where
  pub counts : AreSoMany chunk (length encodings) (length trees)
  pub wide : (e : Error) → RefusesFields o chunk (trees_view trees) (map (λ es. es.items) encodings) e → (e ≡ InvalidArgumentError A7) × HasWideDecimal fs (rows_of chunk)

-- A chunk that suits is refused for want of memory, or for a decimal that its column does not hold.
abbrev pub SuitingChunksAreTaken : Type 0
SuitingChunksAreTaken =
    (wants_deltas : Bool) (fs : FieldTrees) (o : WriteOptions) (chunk : ArrayTrees) (encodings : List (Vec Encoding Global)) (trees : List ParquetType)
    → Suits wants_deltas fs o chunk (trees_view trees) (map (λ es. es.items) encodings) → IsTaken fs o chunk encodings trees

-- A page of it is refused for want of memory, or because its room passes the sizes of a header: then the rows of the chunk, cut by the row rule, have such a page.
abbrev pub LargePagesAreLarge : Type 0
LargePagesAreLarge =
    (wants_deltas : Bool) (fs : FieldTrees) (g : RowGroupIter) (e : Error) → IsSuiting wants_deltas fs g → HasColumns g → SomeRefuses RefusesColumn g.columns.items e
    → (e ≡ Memory) ⊎ ((e ≡ Overflow V3) × PieceIsTooLarge (style_of g.options) fs (rows_of g.chunk) (all_entries g.chunk))

-- The group that its columns give is laid out as its rows are to be: in the encodings that are chosen, and with the entries of its dictionaries, of which
-- there are none.
abbrev pub GroupsAreWritten : Type 0
GroupsAreWritten =
    (wants_deltas : Bool) (fs : FieldTrees) (g : RowGroupIter) (out : OutGroup) → IsSuiting wants_deltas fs g → HasColumns g → IsGroupOf fs g out
    → IsLaidGroup (style_of g.options) (rows_of g.chunk) (schema_columns fs) (columns_of (schema_of fs)) (all_chosen wants_deltas (schema_columns fs) (columns_of (schema_of fs))) (all_entries g.chunk) out
