-- Arrays of several fields side by side, and what is seen of them (Arrow columnar format, "Physical Memory Layout"; Arrow IPC format, "RecordBatch message").
use Rattle.std.specs.Prelude.{ℕ, zero, suc, ◌+◌, List, [], ◌∷◌, ◌++◌, map, Option, Some, None}
use Rattle.shredding.specs.Slot.{Slots, Value}
use Rattle.columns_core.specs.Tree.{TypeTree, t_null, FieldTree, field}
use Rattle.columns_slots.specs.Slots.{slots, slots_at, type_of, first_len}
pub use Rattle.columns_entries.specs.Entries.{entry_value}
use Rattle.columns_slots.specs.Tree.{ArrayTree, null_array, leaf_array, list_array, fixed_list_array, struct_array, dictionary_array, ArrayTrees, no_arrays, more_arrays}
use Rattle.pq_headline.specs.Rows.{Seen}

-- ---- one array

abbrev pub type_in : FieldTree → TypeTree
type_in (field name t is_nullable metadata) = t

-- for each leaf in order the entries, where it has a dictionary: each with a value or null
abbrev mutual
  pub entries_in : ArrayTree → List (Option (List (Option Value)))
  entries_in (null_array t n) = None ∷ []
  entries_in (leaf_array t vs m) = None ∷ []
  entries_in (list_array t os c m) = entries_in c
  entries_in (fixed_list_array t w n c m) = entries_in c
  entries_in (struct_array t cs m) = all_entries cs
  entries_in (dictionary_array t ks c m) = Some (map entry_value (slots c)) ∷ []

  pub all_entries : ArrayTrees → List (Option (List (Option Value)))
  all_entries no_arrays = []
  all_entries (more_arrays c cs) = entries_in c ++ all_entries cs

-- ---- several

-- the array at a place
abbrev pub array_at : ℕ → ArrayTrees → ArrayTree
array_at i no_arrays = null_array t_null 0
array_at zero (more_arrays c cs) = c
array_at (suc i) (more_arrays c cs) = array_at i cs

-- the rows of arrays of one length: at each of so many positions, from a place on, a slot of each
abbrev pub rows_from : ArrayTrees → ℕ → ℕ → List Slots
rows_from cs place zero = []
rows_from cs place (suc count) = slots_at cs place ∷ rows_from cs (place + 1) count

abbrev pub rows_of : ArrayTrees → List Slots
rows_of cs = rows_from cs 0 (first_len cs)

-- a chunk as it is seen: the types and slots of its arrays
abbrev pub seen_in : ArrayTrees → List Seen
seen_in no_arrays = []
seen_in (more_arrays c cs) = record { type = type_of c; slots = slots c } ∷ seen_in cs
