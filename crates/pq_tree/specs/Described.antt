-- The columns that the Rust descriptors stand for, and the chunks' descriptors.
use Rattle.std.specs.Prelude.{◌≡◌, ℕ, ◌<◌, List, map as list_map, Option, Some, option_map, length, slice_get, All}
use Rattle.pq_tree.specs.declared.types.ColumnChunkMetaData.{ColumnChunkMetaData}
use Rattle.pq_tree.specs.declared.types.Descriptor.{Descriptor}
use Rattle.pq_tree.specs.declared.types.RowGroupMetaData.{RowGroupMetaData}
use Rattle.pq_tree.specs.Columns.{Column}
use Rattle.pq_tree.specs.TreeViews.{info_view}
use Rattle.pq_tree.specs.Views.{physical_view}

abbrev pub column_view : Descriptor → Column
column_view d =
    record {
      info = Some (info_view d.primitive_type.field_info d.primitive_type.converted_type d.primitive_type.logical_type);
      physical = physical_view d.primitive_type.physical_type;
      max_definition = d.max_def_level;
      max_repetition = d.max_rep_level;
    }

abbrev pub descriptor_view : ColumnChunkMetaData → Option Column
descriptor_view c = option_map column_view c.descriptor

-- Each chunk has the column at its place, and none where there is no such column.
abbrev pub AreDescribed : List Column → List ColumnChunkMetaData → Type 0
AreDescribed columns chunks = (k : ℕ) → k < length chunks → slice_get (list_map descriptor_view chunks) k ≡ Some (slice_get columns k)

abbrev pub IsDescribed : List Column → RowGroupMetaData → Type 0
IsDescribed columns g = AreDescribed columns g.columns.items

abbrev pub GroupsAreDescribed : List Column → List RowGroupMetaData → Type 0
GroupsAreDescribed columns groups = All (IsDescribed columns) groups
