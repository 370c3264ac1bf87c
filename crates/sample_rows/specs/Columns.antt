-- The arrays of the sample's fields.
use Rattle.std.specs.Prelude.{◌≡◌, ℕ}
use Rattle.shredding.specs.Slot.{Slot}
use Rattle.columns_core.specs.Tree.{TypeTree, t_int64, t_utf8}
use Rattle.columns_slots.specs.Slots.{slots, type_of}
use Rattle.columns_slots.specs.Tree.{ArrayTree, ArrayTrees, no_arrays, more_arrays}
use Rattle.sample_rows.specs.Fields.{items_type}
use Rattle.sample_rows.specs.Rows.{each_row, id_slot, tag_slot, items_slot}

-- an array of the type, with the slot of each of so many rows
pub record IsColumn (t : TypeTree) (at : ℕ → Slot) (count : ℕ) (a : ArrayTree) : Type 0 where
  pub typed : type_of a ≡ t
  pub slots_are : slots a ≡ each_row at count

-- an array for each field
abbrev pub AreColumns : ℕ → ArrayTrees → Type 0
AreColumns count (more_arrays ids (more_arrays tags (more_arrays lists no_arrays))) =
    IsColumn t_int64 id_slot count ids × IsColumn t_utf8 tag_slot count tags × IsColumn items_type items_slot count lists
AreColumns count _ = ⊥
