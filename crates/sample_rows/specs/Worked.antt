-- Examples, computed when the crate is checked: the rows of the smallest samples.
use Rattle.std.specs.Prelude.{◌≡◌, ℕ, pos, codes, List, [], ◌∷◌}
use Rattle.shredding.specs.Slot.{number, bytes, Slot, null, value, items, Slots, no_slots, slot, slots_of}
use Rattle.sample_rows.specs.Present.{sample_items}
use Rattle.sample_rows.specs.Rows.{each_row, items_slot, sample_row, sample_rows, tag_slot}

abbrev pub number_slot : ℕ → Slot
number_slot n = value (number (pos n))

abbrev pub text_slot : List ℕ → Slot
text_slot bs = value (bytes bs)

abbrev pub list_slot : List Slot → Slot
list_slot ss = items (slots_of ss)

abbrev pub three : Slot → Slot → Slot → Slots
three a b c = slot a (slot b (slot c no_slots))

pub record AsWorked : Type 0 where
  pub first_row : sample_rows 1 ≡ three (number_slot 0) null null ∷ []
  pub row_10 : sample_row 10 ≡ three (number_slot 10) (text_slot (codes "10")) null
  pub tags : each_row tag_slot 5 ≡ null ∷ text_slot (codes "1") ∷ text_slot (codes "2") ∷ null ∷ text_slot (codes "4") ∷ []
  -- of the rows 0 to 9
  pub lists :
      each_row items_slot 10
      ≡ null
      ∷ list_slot (number_slot 1 ∷ [])
      ∷ list_slot (number_slot 2 ∷ number_slot 3 ∷ [])
      ∷ list_slot (number_slot 3 ∷ number_slot 4 ∷ number_slot 5 ∷ [])
      ∷ list_slot []
      ∷ null
      ∷ list_slot (number_slot 6 ∷ null ∷ [])
      ∷ list_slot (null ∷ number_slot 8 ∷ number_slot 9 ∷ [])
      ∷ list_slot []
      ∷ list_slot (number_slot 9 ∷ [])
      ∷ []
  pub no_items : sample_items 1 ≡ record { count = 0; sum = pos 0 }
  pub ten_items : sample_items 10 ≡ record { count = 10; sum = pos 50 }
