-- Worked schemas and rows: which are settled, and how many pairs they have.
use Rattle.std.specs.Prelude.{◌≡◌, List, [], ◌∷◌, codes, pos, true, false}
use Rattle.columns_core.specs.declared.types.IntegerType.TheVariants.{Int8}
use Rattle.columns_core.specs.Tree.{FieldTree, FieldTrees, field, more_fields, no_fields, t_dictionary, t_int64, t_list, t_struct, t_utf8}
use Rattle.shredding.specs.Slot.{Slot, Slots, items, no_slots, null, number, slot, slots_of, value}
use Rattle.unique_rows.specs.Valid.{IsSettled, PassOffsets, pairs_in_rows}

abbrev pub may : FieldTree → FieldTrees
may f = more_fields f no_fields

-- an optional list of optional numbers
abbrev pub lists : FieldTrees
lists = may (field (codes "a") (t_list (field (codes "item") t_int64 true [])) true [])

abbrev pub one : Slot
one = value (number (pos 1))

abbrev pub row : Slot → Slots
row s = slot s no_slots

-- [1, 1], null, [] and [null]: five pairs
abbrev pub some_rows : List Slots
some_rows = row (items (slots_of (one ∷ one ∷ []))) ∷ row null ∷ row (items no_slots) ∷ row (items (slot null no_slots)) ∷ []

abbrev pub with_keys : FieldTrees
with_keys = may (field (codes "k") (t_dictionary Int8 t_utf8 false) true [])

abbrev pub with_nothing : FieldTrees
with_nothing = may (field (codes "s") (t_struct no_fields) true [])

pub record AreWorked : Type 0 where
  pub lists_are : IsSettled lists
  pub pairs : pairs_in_rows lists (some_rows ∷ (row null ∷ []) ∷ []) ≡ 6
  pub few : PassOffsets lists some_rows → ⊥
  -- no field, a dictionary, and a struct without fields are not
  pub none : IsSettled no_fields → ⊥
  pub keys : IsSettled with_keys → ⊥
  pub empty : IsSettled with_nothing → ⊥
