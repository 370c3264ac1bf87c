-- Which entries a dictionary page has, and what it stores for each (Parquet format, "Dictionary Page"; Encodings, "Dictionary Encoding").
use Rattle.std.specs.Prelude.{◌<◌, ℕ, List, [], ◌∷◌, length, map, Bool, true, false, ◌&&◌, ◌==◌, Option, Some, None}
use Rattle.shredding.specs.Parts.{leaf_part, path_slots}
use Rattle.shredding.specs.Shape.{LeafType, at_leaf}
use Rattle.shredding.specs.Shred.{Triple, column}
use Rattle.shredding.specs.Slot.{Value, value}
use Rattle.nested_paths.specs.LeafNulls.{value_at}
use Rattle.columns_core.specs.Shapes.{leaf_type}
use Rattle.columns_core.specs.Tree.{TypeTree, t_fixed_size_binary}
use Rattle.columns_entries.specs.Entries.{entry_value, entries_of}
use Rattle.columns_slots.specs.Slots.{mask_of, slot_at, tree_len, type_of}
use Rattle.columns_slots.specs.Tree.{ArrayTree}
use Rattle.pq_tree.specs.Physical.{Physical}
use Rattle.pq_files.specs.Layout.{filler, plain_length}
use Rattle.pq_files.specs.Room.{room, max_size}
use Rattle.schema_fit.specs.declared.page_table.Row.{Row}
use Rattle.schema_fit.specs.PageTable.{allows, entry_row, is_stored_length}
use Rattle.write_values.specs.Stored.{stored_value}

abbrev pub row_allows : Option Row → Physical → Bool
row_allows None p = false
row_allows (Some row) p = allows row.stored p

-- entries of the type, without its extensions, are written under the physical type
abbrev pub is_entry : TypeTree → Physical → Bool
is_entry t p = row_allows (entry_row t) p

-- fixed byte strings of this length, which pages may have
abbrev pub is_fixed_entry : TypeTree → ℕ → Bool
is_fixed_entry (t_fixed_size_binary m) n = is_stored_length m && (m == n)
is_fixed_entry t n = false

-- what stands for an entry: its stored value, and zero or no bytes in the place of a null one
abbrev pub stored_entry : LeafType → Physical → Option Value → Value
stored_entry t p None = filler p
stored_entry t p (Some v) = stored_value t p v

abbrev pub stored_entries : ArrayTree → Physical → List Value
stored_entries c p = map (stored_entry (leaf_type (type_of c)) p) (entries_of c)

-- what stands for the entry at a place
abbrev pub stored_entry_at : ArrayTree → Physical → ℕ → Value
stored_entry_at c p i = stored_entry (leaf_type (type_of c)) p (entry_value (slot_at c i))

-- the room of a dictionary page of these entries passes the sizes of a header
abbrev pub AreTooLarge : Physical → List Value → Type 0
AreTooLarge p entries = max_size < room (length entries) (plain_length p entries)

-- the column of an array's values as an optional leaf
abbrev pub entry_column : ArrayTree → List Triple
entry_column c = column (at_leaf true) (path_slots (λ i. value (value_at c i)) (leaf_part true (mask_of c) (tree_len c) ∷ []))
