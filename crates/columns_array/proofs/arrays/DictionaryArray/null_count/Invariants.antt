use Rattle.std.proofs.Common.{◌≡◌, ◌≤◌, count_by}
use Rattle.shredding.specs.Parts.{slots_from}
use Rattle.columns_slots.specs.Slots.{slot_at, is_null}
use Rattle.columns_array.proofs.arrays.DictionaryArray.null_count.Given as goal

abbrev pub invariant-loop-i : goal.invariant-loop-i
invariant-loop-i l = (l.count ≡ count_by is_null (slots_from (slot_at l.self) 0 l.i)) × (l.count ≤ l.i)
