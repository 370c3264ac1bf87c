-- The items in chunks of the sample's arrays.
use Rattle.std.specs.Prelude.{◌≡◌, ◌<◌, List}
use Rattle.shredding.specs.Slot.{Slot}
use Rattle.columns_slots.specs.Slots.{count_arrays, slots, type_of}
use Rattle.columns_slots.specs.Tree.{ArrayTrees}
use Rattle.pq_headline.specs.Arrays.{array_at}
use Rattle.sample_rows.specs.Fields.{items_type}

-- the third array is one of lists of items
pub record HasItems (cs : ArrayTrees) : Type 0 where
  pub some : 2 < count_arrays cs
  pub typed : type_of (array_at 2 cs) ≡ items_type

-- its lists
abbrev pub lists_in : ArrayTrees → List Slot
lists_in cs = slots (array_at 2 cs)
