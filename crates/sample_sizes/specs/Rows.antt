-- Rows of the sample, and groups of them.
use Rattle.std.specs.Prelude.{◌≡◌, ◌⊎◌, ℕ, ◌<◌, ◌≤◌, List, [], ◌∷◌, All, flat_map, length, sum_by, Some}
use Rattle.shredding.specs.Cut.{cut}
use Rattle.shredding.specs.Slot.{Slots}
use Rattle.sample_rows.specs.Rows.{sample_row, sample_rows}

-- one of the first million rows of the sample
pub record IsRow (r : Slots) : Type 0 where
  pub place : ℕ
  pub small : place < 1000000
  pub is : r ≡ sample_row place

-- at most a million of them
pub record AreRows (rows : List Slots) : Type 0 where
  pub are : All IsRow rows
  pub few : length rows ≤ 1000000

-- at most a thousand groups of them, and at most a million together
pub record AreGroupsOfRows (rowss : List (List Slots)) : Type 0 where
  pub are : All (All IsRow) rowss
  pub groups : length rowss ≤ 1000
  pub few : sum_by length rowss ≤ 1000000

-- the sample as it is written at first, in one group, and as it is written anew, in groups of a thousand rows
pub record IsSample (rowss : List (List Slots)) : Type 0 where
  pub count : ℕ
  pub few : count ≤ 1000000
  pub is : (rowss ≡ sample_rows count ∷ []) ⊎ (rowss ≡ cut (sample_rows count) (Some 1000))

-- each of its groups cut by a thousand rows
abbrev pub thousands : List (List Slots) → List (List Slots)
thousands rowss = flat_map (λ rows. cut rows (Some 1000)) rowss
