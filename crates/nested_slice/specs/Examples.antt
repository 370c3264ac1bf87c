-- A worked cut, computed when the crate is checked.
use Rattle.std.specs.Prelude.{◌≡◌, ℕ, ◌+◌, pos, true, false, Some, None, List, [], ◌∷◌}
use Rattle.shredding.specs.Slot.{number, Slot, null, value, items, fields, slots_of}
use Rattle.shredding.specs.Parts.{Part, leaf_part, list_part, struct_part, IsPath, path_slots}
use Rattle.levels.specs.InBounds.{IsInBounds, bounded_slots}
use Rattle.nested_slice.specs.CutPath.{cut_parts, leaf_rows}

-- Lists of structs of a list: two items, null over an item, no item, three items. The fourth struct is null over three numbers. One of the
-- numbers is null, and the last is in no list.
abbrev pub whole : List Part
whole =
    list_part true (Some (true ∷ false ∷ true ∷ true ∷ [])) (0 ∷ 2 ∷ 3 ∷ 3 ∷ 6 ∷ [])
    ∷ struct_part true (Some (true ∷ true ∷ true ∷ false ∷ true ∷ true ∷ [])) 6
    ∷ list_part false None (0 ∷ 1 ∷ 1 ∷ 2 ∷ 5 ∷ 6 ∷ 8 ∷ [])
    ∷ leaf_part true (Some (true ∷ true ∷ true ∷ true ∷ true ∷ true ∷ false ∷ true ∷ true ∷ [])) 9
    ∷ []

-- the last three rows: the offsets keep their numbers, the masks and lengths begin at the first row that is kept
abbrev pub part : List Part
part =
    list_part true (Some (false ∷ true ∷ true ∷ [])) (2 ∷ 3 ∷ 3 ∷ 6 ∷ [])
    ∷ struct_part true (Some (true ∷ false ∷ true ∷ true ∷ [])) 4
    ∷ list_part false None (1 ∷ 2 ∷ 5 ∷ 6 ∷ 8 ∷ [])
    ∷ leaf_part true (Some (true ∷ true ∷ true ∷ true ∷ true ∷ false ∷ true ∷ [])) 7
    ∷ []

-- the last row but one, and no row
abbrev pub one : List Part
one = list_part true (Some (true ∷ [])) (3 ∷ 3 ∷ []) ∷ struct_part true (Some []) 0 ∷ list_part false None (2 ∷ []) ∷ leaf_part true (Some []) 0 ∷ []

abbrev pub number_slot : ℕ → Slot
number_slot n = value (number (pos n))

abbrev pub list_slot : List Slot → Slot
list_slot ss = items (slots_of ss)

abbrev pub struct_slot : Slot → Slot
struct_slot s = fields (slots_of (s ∷ []))

-- null, no item, and null, {[5]}, {[null, 7]}
abbrev pub rows : List Slot
rows = null ∷ list_slot [] ∷ list_slot (null ∷ struct_slot (list_slot (number_slot 5 ∷ [])) ∷ struct_slot (list_slot (null ∷ number_slot 7 ∷ [])) ∷ []) ∷ []

pub record AsWorked : Type 0 where
  pub whole_in_bounds : IsInBounds whole
  pub whole_is_no_path : IsPath whole → ⊥
  pub whole_slots : bounded_slots number_slot whole ≡ list_slot (struct_slot (list_slot (number_slot 0 ∷ [])) ∷ struct_slot (list_slot []) ∷ []) ∷ rows
  pub cut_is : cut_parts whole 1 3 ≡ part
  pub leaf_is : leaf_rows whole 1 3 ≡ (1, 7)
  pub part_is_path : IsPath part
  pub part_out_of_bounds : IsInBounds part → ⊥
  pub part_slots : path_slots (λ i. number_slot (1 + i)) part ≡ rows
  pub cut_to_one : cut_parts whole 2 1 ≡ one
  pub one_slots : path_slots (λ i. number_slot (2 + i)) one ≡ list_slot [] ∷ []
  pub cut_to_none : cut_parts whole 4 0 ≡ list_part true (Some []) (6 ∷ []) ∷ struct_part true (Some []) 0 ∷ list_part false None (8 ∷ []) ∷ leaf_part true (Some []) 0 ∷ []
  pub no_slots : path_slots (λ i. number_slot (8 + i)) (cut_parts whole 4 0) ≡ []
  pub cut_to_all : cut_parts whole 0 4 ≡ list_part true (Some (true ∷ false ∷ true ∷ true ∷ [])) (0 ∷ 2 ∷ 3 ∷ 3 ∷ 6 ∷ []) ∷ struct_part true (Some (true ∷ true ∷ true ∷ false ∷ true ∷ true ∷ [])) 6 ∷ list_part false None (0 ∷ 1 ∷ 1 ∷ 2 ∷ 5 ∷ 6 ∷ 8 ∷ []) ∷ leaf_part true (Some (true ∷ true ∷ true ∷ true ∷ true ∷ true ∷ false ∷ true ∷ [])) 8 ∷ []
