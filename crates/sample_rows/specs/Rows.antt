-- The rows of the sample: a number, a text and a list in each, made from the row's number.
use Rattle.std.specs.Prelude.{ℕ, pos, ◌%◌, ◌==◌, if◌then◌else◌, List, map}
use Rattle.std.specs.Fmt.{decimal}
use Rattle.std.specs.List.{range_with_len}
use Rattle.shredding.specs.Slot.{number, bytes, Slot, null, value, items, Slots, no_slots, slot, slots_of}

-- the slot of the first field in a row: the row's number
abbrev pub id_slot : ℕ → Slot
id_slot i = value (number (pos i))

-- that of the second: the number in decimal, and null in each third row
abbrev pub tag_slot : ℕ → Slot
tag_slot i = if i % 3 == 0 then null else value (bytes (decimal i))

-- an item: a number, and null where seven divides it
abbrev pub item_slot : ℕ → Slot
item_slot n = if n % 7 == 0 then null else value (number (pos n))

-- the slot of the third field: in row i the i mod 4 items from i on, and null in each fifth row
abbrev pub items_slot : ℕ → Slot
items_slot i = if i % 5 == 0 then null else items (slots_of (map item_slot (range_with_len i (i % 4))))

abbrev pub sample_row : ℕ → Slots
sample_row i = slot (id_slot i) (slot (tag_slot i) (slot (items_slot i) no_slots))

-- what each of count rows has, from the first on
abbrev pub each_row : {A : Type 0} → (ℕ → A) → ℕ → List A
each_row at count = map at (range_with_len 0 count)

-- the rows 0 to count - 1
abbrev pub sample_rows : ℕ → List Slots
sample_rows count = each_row sample_row count
