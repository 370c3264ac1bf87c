-- When a path and a type fit an array (Parquet format, "Types", LogicalTypes and "Nested Encoding").
use Rattle.std.specs.Prelude.{◌≡◌, Bool, true, false, ◌&&◌, ◌||◌, nat_eq, Option, Some, None, List, length, All}
use Rattle.shredding.specs.Along.{IsAlong}
use Rattle.shredding.specs.Parts.{Part, path_way, slot_count}
use Rattle.shredding.specs.Slot.{Slot}
use Rattle.columns_core.specs.declared.types.IntervalUnit.TheVariants.{YearMonth, DayTime}
use Rattle.columns_core.specs.Shapes.{base}
use Rattle.columns_core.specs.Tree.{TypeTree, t_decimal, t_dictionary, t_fixed_size_binary, t_interval, t_timestamp, t_uint64}
use Rattle.columns_slots.specs.Slots.{cut, type_of}
use Rattle.columns_slots.specs.Types.{is_boolean}
use Rattle.columns_slots.specs.Tree.{ArrayTree}
use Rattle.nested_slice.specs.CutPath.{cut_parts, leaf_rows}
use Rattle.nested_paths.specs.Nodes.{is_optional}
use Rattle.nested_paths.specs.PathLeaf.{is_leaf_optional, FitsLeaf}
use Rattle.pq_tree.specs.Physical.{Physical, int32, int64, byte_array, fixed}
use Rattle.pq_tree.specs.declared.types.Encoding.{Encoding}
use Rattle.pq_tree.specs.declared.types.Encoding.TheVariants as E
use Rattle.pq_tree.specs.Tree.{Tree}
use Rattle.schema_fit.specs.declared.page_table.Row.{Row}
use Rattle.schema_fit.specs.PageTable.{value_row, entry_row, allows, is_stored_length}
use Rattle.schema_to_tree.specs.Encodes.{encodes, is_dictionary}
use Rattle.write_values.specs.Served.{is_small, is_wide, is_string}
use Rattle.dictionary_pages.specs.Entries.{is_entry}
use Rattle.dictionary_pages.specs.Keys.{AreKeyed}

-- the row of a type in the page table: a dictionary goes by its entries
abbrev pub row_at : TypeTree → Option Row
row_at (t_dictionary k t sorted) = entry_row (base t)
row_at t = value_row true t

-- The path's leaf has the array's length and, where it may be null, its nulls. The physical type is one of the row of the array's type, if it
-- has a row. The leaf of the tree is optional as that of the path is. The path's rows have no null at a node that is required.
pub record FitsColumn (parts : List Part) (rows : List Slot) (leaf : Tree) (p : Physical) (a : ArrayTree) : Type 0 where
  pub array : FitsLeaf a parts
  pub physical : (r : Row) → row_at (base (type_of a)) ≡ Some r → allows r.stored p ≡ true
  pub optional : is_optional leaf ≡ is_leaf_optional parts
  pub reached : All (IsAlong (path_way parts)) rows

-- One page of values of the type may be in the encoding, under the physical type: in PLAIN, and in the deltas that the type may have, but fixed
-- byte strings never in DELTA_BINARY_PACKED; in the encodings of dictionaries where the type is one (Parquet format, Encodings).
abbrev pub is_written_as : Encoding → TypeTree → Physical → Bool
is_written_as E.Plain t p = true
is_written_as E.PlainDictionary t p = encodes E.PlainDictionary t
is_written_as E.RleDictionary t p = encodes E.RleDictionary t
is_written_as E.DeltaLengthByteArray t p = encodes E.DeltaLengthByteArray t
is_written_as E.DeltaBinaryPacked t (fixed n) = false
is_written_as E.DeltaBinaryPacked t p = encodes E.DeltaBinaryPacked t
is_written_as e t p = false

-- Values of a type, without its extensions, are written in any column: truth values, whole numbers, dates, times, timestamps, durations, texts,
-- byte strings, and nulls alone.
abbrev pub is_written : TypeTree → Bool
is_written t = is_boolean t || is_small t || is_wide t || is_string t

-- Values of a type, without its extensions, are written in a column that is no more than its leaf: byte strings of a length from 1 to
-- 2^31 - 1, decimals, and intervals of months or of days.
abbrev pub is_written_flat : TypeTree → Bool
is_written_flat (t_fixed_size_binary n) = is_stored_length n
is_written_flat (t_decimal precision scale) = true
is_written_flat (t_interval YearMonth) = true
is_written_flat (t_interval DayTime) = true
is_written_flat t = false

-- Values of a type, without its extensions, are written in a column that is no more than its leaf, or in one that is. Dictionaries are written
-- as the keys of their entries; other types are in no page.
abbrev pub is_written_in : Bool → TypeTree → Bool
is_written_in is_flat t = is_written t || (is_flat && is_written_flat t)

-- a path of no more than its leaf
abbrev pub is_flat_path : List Part → Bool
is_flat_path parts = nat_eq (length parts) 1

-- the values of the array of a path's leaf are written
abbrev pub is_written_along : List Part → ArrayTree → Bool
is_written_along parts a = is_written_in (is_flat_path parts) (base (type_of a))

-- ---- dictionaries

-- the two names of the encoding of dictionaries
abbrev pub is_dictionary_encoding : Encoding → Bool
is_dictionary_encoding E.PlainDictionary = true
is_dictionary_encoding E.RleDictionary = true
is_dictionary_encoding e = false

-- whether a row is for a column that is no more than its leaf, or for one that is
abbrev pub is_row_in : Bool → Option Row → Bool
is_row_in is_flat None = false
is_row_in is_flat (Some row) = is_flat || row.is_nested

-- Dictionaries are written in a column that is no more than its leaf, or in one that is, by the row of their entries.
abbrev pub is_keyed_in : Bool → TypeTree → Bool
is_keyed_in is_flat (t_dictionary k t sorted) = is_row_in is_flat (entry_row (base t))
is_keyed_in is_flat t = false

-- pages of the array of a path's leaf are written
abbrev pub is_column_written : List Part → ArrayTree → Bool
is_column_written parts a = is_written_along parts a || is_keyed_in (is_flat_path parts) (base (type_of a))

-- fixed byte strings of a length that pages may have
abbrev pub has_stored_length : TypeTree → Bool
has_stored_length (t_fixed_size_binary n) = is_stored_length n
has_stored_length t = false

-- entries of a type, without its extensions, are written under some physical type
abbrev pub is_entry_type : TypeTree → Bool
is_entry_type t = is_entry t int32 || is_entry t int64 || is_entry t byte_array || has_stored_length t

-- entries of the type may be in a column that is more than its leaf
abbrev pub may_nest : TypeTree → Bool
may_nest t_uint64 = false
may_nest (t_timestamp unit zone_name) = false
may_nest t = true

-- ---- the keys that a path reaches

-- a path with all its rows: well formed, over the part of the leaf array that these rows reach
abbrev pub whole_path : List Part → List Part
whole_path parts = cut_parts parts 0 (slot_count parts)

abbrev pub whole_array : List Part → ArrayTree → ArrayTree
whole_array parts a = cut a (leaf_rows parts 0 (slot_count parts)).0 (leaf_rows parts 0 (slot_count parts)).1

-- Each key that the path in bounds reaches in a dictionary numbers an entry, one that is not null where the leaf is required.
abbrev pub AreColumnKeyed : List Part → ArrayTree → Type 0
AreColumnKeyed parts a = is_dictionary (base (type_of a)) ≡ true → AreKeyed (whole_array parts a) (whole_path parts)
