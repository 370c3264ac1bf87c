-- Worked paths, computed when the crate is checked: their level pairs, what their lists span, and what is in bounds.
use Rattle.std.specs.Prelude.{◌≡◌, ℕ, pos, true, false, Some, None, List, [], ◌∷◌}
use Rattle.shredding.specs.Slot.{Slot, null, value, number, items, fields, slot, no_slots, slots_of}
use Rattle.shredding.specs.Parts.{Part, leaf_part, list_part, struct_part}
use Rattle.shredding.specs.Worked.{position_value, lists, lists_of_lists, lists_in_structs, null_over_items, null_over_fewer}
use Rattle.levels.specs.declared.walk.Stretch.TheVariants.{Ends}
use Rattle.levels.specs.Levels.{slot_pairs, path_pairs}
use Rattle.levels.specs.Sizes.{total, slot_size}
use Rattle.levels.specs.Ranges.{leaf_range, span_sum}
use Rattle.levels.specs.InBounds.{IsInBounds, bounded_slots}
use Rattle.levels.specs.Stretch.{like_pairs, stretch_pairs, stretch_end}

-- ---- level pairs and their numbers

pub record PairsAreWorked : Type 0 where
  pub nulls_everywhere : path_pairs lists_in_structs ≡
      (0, 6) ∷ (1, 6) ∷ (0, 0) ∷ (0, 6) ∷ (1, 2) ∷ (1, 6) ∷ (0, 3) ∷ (1, 3) ∷ (1, 3) ∷ (0, 1) ∷ (0, 6) ∷ (1, 5) ∷ (1, 6) ∷ (2, 6) ∷ (0, 0) ∷ (0, 4) ∷ []
  -- what lies beneath a null list is passed over
  pub null_list : path_pairs null_over_items ≡ (0, 2) ∷ (1, 2) ∷ (0, 0) ∷ []
  pub fewer_beneath : path_pairs null_over_fewer ≡ path_pairs null_over_items
  -- the second list of lists, beneath two definition levels and one list
  pub beneath : slot_pairs lists_of_lists 2 1 1 2 ≡ (1, 4) ∷ (3, 4) ∷ (2, 4) ∷ []
  pub count : total (slot_size lists) 0 8 ≡ 15
  pub count_with_nulls : total (slot_size lists_in_structs) 0 8 ≡ 16
  pub empty_list : slot_size lists 1 ≡ 1
  pub list_of_three : slot_size lists 2 ≡ 3
  pub null_counts_once : slot_size null_over_items 1 ≡ 1

-- ---- stretches

pub record StretchesAreWorked : Type 0 where
  pub like : like_pairs 0 1 3 4 ≡ (0, 3) ∷ (1, 3) ∷ (1, 3) ∷ (1, 3) ∷ []
  pub none : like_pairs 0 1 3 0 ≡ []
  -- values from place 5 to place 8, beneath a definition level and a list
  pub ends : stretch_pairs 1 1 0 5 (Ends 1 8) ≡ (0, 2) ∷ (1, 2) ∷ (1, 2) ∷ []
  pub end : stretch_end 5 (Ends 1 8) ≡ 8

-- ---- what lists span

-- a large list of lists, whose offsets begin later
abbrev pub later : List Part
later = list_part true None (1 ∷ 2 ∷ 4 ∷ []) ∷ list_part true None (5 ∷ 7 ∷ 7 ∷ 9 ∷ []) ∷ leaf_part true None 9 ∷ []

pub record RangesAreWorked : Type 0 where
  pub leaf_alone : leaf_range (leaf_part true None 7 ∷ []) ≡ (0, 7)
  pub struct : leaf_range (struct_part true None 7 ∷ leaf_part true None 7 ∷ []) ≡ (0, 7)
  pub first_offset : leaf_range null_over_fewer ≡ (7, 3)
  pub deepest : leaf_range later ≡ (5, 4)
  pub sum : span_sum later ≡ 7
  pub no_list : span_sum (leaf_part true None 7 ∷ []) ≡ 0
  pub all_lists : span_sum lists_in_structs ≡ 20

-- ---- in bounds

-- three lists from a later item on, the second one null, over a leaf with a null
abbrev pub cut_lists : List Part
cut_lists =
    list_part true (Some (true ∷ false ∷ true ∷ [])) (1 ∷ 3 ∷ 4 ∷ 5 ∷ [])
    ∷ leaf_part true (Some (true ∷ true ∷ false ∷ true ∷ true ∷ true ∷ [])) 6
    ∷ []

abbrev pub position : ℕ → Slot
position i = value (number (pos i))

pub record BoundsAreWorked : Type 0 where
  pub more_items : IsInBounds (list_part true None (1 ∷ 2 ∷ []) ∷ leaf_part true None 5 ∷ [])
  pub cut : IsInBounds cut_lists
  -- as many items as the offsets span, but places count from 0
  pub too_few_items : IsInBounds (list_part true None (1 ∷ 2 ∷ []) ∷ leaf_part true None 1 ∷ []) → ⊥
  pub nothing : IsInBounds [] → ⊥
  pub no_leaf : IsInBounds (list_part true None (0 ∷ 0 ∷ []) ∷ []) → ⊥
  pub two_leaves : IsInBounds (leaf_part true None 1 ∷ leaf_part true None 1 ∷ []) → ⊥
  pub longer_child : IsInBounds (struct_part true None 1 ∷ leaf_part true None 2 ∷ []) → ⊥
  pub slots : bounded_slots position_value cut_lists ≡ items (slots_of (position 1 ∷ null ∷ [])) ∷ null ∷ items (slots_of (position 4 ∷ [])) ∷ []
  pub struct_slots : bounded_slots position_value (struct_part true (Some (true ∷ false ∷ [])) 2 ∷ leaf_part false None 2 ∷ []) ≡ fields (slot (position 0) no_slots) ∷ null ∷ []

pub record AreWorked : Type 0 where
  pub pairs : PairsAreWorked
  pub stretches : StretchesAreWorked
  pub ranges : RangesAreWorked
  pub bounds : BoundsAreWorked
