-- What the code's way of saying how a leaf is stored stands for.
use Rattle.std.specs.Prelude.{option_map}
use Rattle.pq_tree.specs.Views.{physical_view, converted_view, logical_view}
use Rattle.schema_to_tree.specs.declared.stored.StoredAs.{StoredAs}
use Rattle.schema_to_tree.specs.Table.{Stored}

abbrev pub stored_view : StoredAs → Stored
stored_view s =
    record {
      physical = physical_view s.physical_type;
      converted = option_map converted_view s.converted_type;
      logical = option_map logical_view s.logical_type;
    }
