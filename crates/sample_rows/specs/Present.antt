-- The present items of lists of numbers: how many they are, and their sum.
use Rattle.std.specs.Prelude.{◌≡◌, ℕ, ℤ, pos, ◌+◌, ◌+ℤ◌, List, [], ◌∷◌, ◌++◌, length, flat_map, fold}
use Rattle.shredding.specs.Slot.{number, Slot, value, items, list_of}
use Rattle.sample_rows.specs.Rows.{each_row, items_slot}

-- the number in a slot, and none in a null one
abbrev pub number_in : Slot → List ℤ
number_in (value (number z)) = z ∷ []
number_in _ = []

-- those of the items of a list, and none in a null one
abbrev pub numbers_in : Slot → List ℤ
numbers_in (items ss) = flat_map number_in (list_of ss)
numbers_in _ = []

-- the present items of lists, one after another
abbrev pub present : List Slot → List ℤ
present ss = flat_map numbers_in ss

abbrev pub total : List ℤ → ℤ
total zs = fold ◌+ℤ◌ (pos 0) zs

-- how many items are present, and their sum
pub record Items : Type 0 where
  pub count : ℕ
  pub sum : ℤ

abbrev pub items_of : List Slot → Items
items_of ss = record { count = length (present ss); sum = total (present ss) }

-- both together
abbrev pub both : Items → Items → Items
both a b = record { count = a.count + b.count; sum = a.sum +ℤ b.sum }

-- those of the sample
abbrev pub sample_items : ℕ → Items
sample_items count = items_of (each_row items_slot count)

-- Lists that are counted in parts, as arrays of some rows each hold them, are counted together.
abbrev pub ItemsAddUp : Type 0
ItemsAddUp = (a b : List Slot) → items_of (a ++ b) ≡ both (items_of a) (items_of b)
