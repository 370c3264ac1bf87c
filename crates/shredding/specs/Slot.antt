-- What one place of a row holds: null, a value, the items of a list or the fields of a struct.
-- Records nest in this way in the data model of the Dremel paper (section 3, "Data model").
use Rattle.std.specs.Prelude.{ℕ, zero, suc, ℤ, Bool, List, [], ◌∷◌}

-- A leaf's value. Text is its UTF-8 bytes, and an interval its 12 stored bytes.
pub data Value : Type 0 where
  truth : Bool → Value
  number : ℤ → Value
  bytes : List ℕ → Value

mutual
  pub data Slot : Type 0 where
    null : Slot
    value : Value → Slot
    items : Slots → Slot
    fields : Slots → Slot

  -- A list of slots. Types that contain each other need a list of their own.
  pub data Slots : Type 0 where
    no_slots : Slots
    slot : Slot → Slots → Slots

abbrev pub list_of : Slots → List Slot
list_of no_slots = []
list_of (slot s ss) = s ∷ list_of ss

abbrev pub slots_of : List Slot → Slots
slots_of [] = no_slots
slots_of (s ∷ ss) = slot s (slots_of ss)

-- the slot at a position, and null past the end
abbrev pub slot_at : Slots → ℕ → Slot
slot_at no_slots i = null
slot_at (slot s ss) zero = s
slot_at (slot s ss) (suc i) = slot_at ss i
