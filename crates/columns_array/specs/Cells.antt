-- What one position of an array holds, read without its nulls and keys.
use Rattle.std.specs.Prelude.{◌≡◌, ℕ, ◌+◌, ◌*◌, ◌≤◌, ◌<◌, Bool, true, false}
use Rattle.shredding.specs.Slot.{Value, Slot, null, value, truth, number, bytes, items, fields, slots_of}
use Rattle.shredding.specs.Parts.{slots_from}
use Rattle.columns_core.specs.Tree.{TypeTree, t_interval}
use Rattle.columns_slots.specs.Tree.{ArrayTree, null_array, leaf_array, list_array, fixed_list_array, struct_array, dictionary_array}
use Rattle.columns_slots.specs.Slots.{slot_at, slots_at, leaf_at, first_of, count_of, entry_at, tree_len, tree_size, trees_size, AreLong}
use Rattle.columns_array.specs.Boxed.{boxed, all_boxed}
use Rattle.columns_array.specs.declared.arrays.cells.Cell.{Cell}
use Rattle.columns_array.specs.declared.arrays.cells.Cell.TheVariants.{Null, Truth, Number, Interval, Bytes, Items, Fields}

-- the slot that a position has where no mask hides it
abbrev pub content : ArrayTree → ℕ → Slot
content (null_array t n) i = null
content (leaf_array t vs m) i = value (leaf_at vs i)
content (list_array t os c m) i = items (slots_of (slots_from (slot_at c) (first_of os i) (count_of os i)))
content (fixed_list_array t w n c m) i = items (slots_of (slots_from (slot_at c) (i * w) w))
content (struct_array t cs m) i = fields (slots_at cs i)
content (dictionary_array t ks c m) i = slot_at c (entry_at ks i)

-- the slot that a cell stands for
abbrev pub cell_slot : Cell → Slot
cell_slot Null = null
cell_slot (Truth b) = value (truth b)
cell_slot (Number z) = value (number z)
cell_slot (Interval bs) = value (bytes bs)
cell_slot (Bytes bs) = value (bytes bs.now)
cell_slot (Items values first count) = items (slots_of (slots_from (slot_at (boxed values.now)) first count))
cell_slot (Fields values at) = fields (slots_at (all_boxed values.now) at)

-- the arrays in a cell have its positions
abbrev pub HasPlaces : Cell → Type 0
HasPlaces (Items values first count) = first + count ≤ tree_len (boxed values.now)
HasPlaces (Fields values at) = AreLong (at + 1) (all_boxed values.now)
HasPlaces c = Unit {0}

-- the size of the arrays in it
abbrev pub cell_size : Cell → ℕ
cell_size (Items values first count) = tree_size (boxed values.now)
cell_size (Fields values at) = trees_size (all_boxed values.now)
cell_size c = 0

-- it stands for a value, and has no arrays in it
pub record IsValue (c : Cell) (v : Value) : Type 0 where
  pub slot : cell_slot c ≡ value v
  pub places : HasPlaces c
  pub small : cell_size c ≡ 0

-- what a position of an array holds
pub record IsCell (c : Cell) (s : Slot) (n : ℕ) : Type 0 where
  pub slot : cell_slot c ≡ s
  pub places : HasPlaces c
  pub small : cell_size c < n

-- the type of intervals
abbrev pub is_interval : TypeTree → Bool
is_interval (t_interval u) = true
is_interval t = false

-- the number of items of each position of a list of fixed size
abbrev pub width_of : ArrayTree → ℕ
width_of (fixed_list_array t w n c m) = w
width_of a = 0
