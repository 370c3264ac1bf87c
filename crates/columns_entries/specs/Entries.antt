-- The entries of a dictionary (Arrow columnar format, "Dictionary-encoded Layout").
use Rattle.std.specs.Prelude.{List, map, Option, Some, None}
use Rattle.shredding.specs.Slot.{Slot, value, Value}
use Rattle.columns_slots.specs.Slots.{slots}
use Rattle.columns_slots.specs.Tree.{ArrayTree}

abbrev pub entry_value : Slot → Option Value
entry_value (value v) = Some v
entry_value _ = None

-- those of an array, each with a value or null
abbrev pub entries_of : ArrayTree → List (Option Value)
entries_of a = map entry_value (slots a)
