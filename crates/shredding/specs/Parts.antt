-- A path of nested parts, from the outermost list or struct to the leaf, and the slots that it stands for.
-- Each part has its positions side by side, with a mask of those that are not null, and a list the places of its items in the next
-- part (Arrow columnar format, "Validity bitmaps", "Variable-size List Layout" and "Struct Layout").
use Rattle.std.specs.Prelude.{◌≡◌, ◌<◌, ℕ, zero, suc, ◌+◌, ◌-◌, Bool, true, false, cond, Option, Some, None, List, [], ◌∷◌, length, slice_index, slice_index_or}
use Rattle.shredding.specs.Slot.{Slot, null, items, fields, no_slots, slot, slots_of}
use Rattle.shredding.specs.Shape.{Way, at_leaf, in_list, in_struct}

-- whether the part is optional, its mask, and for a leaf or a struct its length, for a list its offsets
pub data Part : Type 0 where
  leaf_part : Bool → Option (List Bool) → ℕ → Part
  list_part : Bool → Option (List Bool) → List ℕ → Part
  struct_part : Bool → Option (List Bool) → ℕ → Part

-- position i is not null by the mask
abbrev pub keeps : Option (List Bool) → ℕ → Bool
keeps None i = true
keeps (Some mask) i = slice_index_or mask i true

-- position i is not null: masks of required parts are not looked at
abbrev pub is_present : Bool → Option (List Bool) → ℕ → Bool
is_present is_optional mask i = cond is_optional (keeps mask i) true

-- the place in the next part of the first item of list i, counted from the first offset
abbrev pub item_start : List ℕ → ℕ → ℕ
item_start offsets i = slice_index offsets i - slice_index offsets 0

-- the number of items of list i
abbrev pub item_count : List ℕ → ℕ → ℕ
item_count offsets i = item_start offsets (i + 1) - item_start offsets i

-- the places in the next part that all lists span together: the last offset less the first
abbrev pub item_span : List ℕ → ℕ
item_span offsets = item_start offsets (length offsets - 1)

-- the number of slots of a path
abbrev pub slot_count : List Part → ℕ
slot_count [] = 0
slot_count (leaf_part is_optional mask count ∷ parts) = count
slot_count (list_part is_optional mask offsets ∷ parts) = length offsets - 1
slot_count (struct_part is_optional mask count ∷ parts) = count

-- a mask has as many positions as its part
abbrev pub MaskFits : Option (List Bool) → ℕ → Type 0
MaskFits None count = Unit {0}
MaskFits (Some mask) count = length mask ≡ count

-- The part fits above those beneath it: a leaf is the last part, a list or struct is not, masks are as long as their parts, and the next
-- part has the slots that this one spans. A struct spans its length, a list its last offset less its first.
abbrev pub FitsAbove : Part → List Part → Type 0
FitsAbove (leaf_part is_optional mask count) beneath = MaskFits mask count × (length beneath ≡ 0)
FitsAbove (list_part is_optional mask offsets) beneath = MaskFits mask (length offsets - 1) × (slot_count beneath ≡ item_span offsets) × (0 < length beneath)
FitsAbove (struct_part is_optional mask count) beneath = MaskFits mask count × (slot_count beneath ≡ count) × (0 < length beneath)

abbrev pub FitTogether : List Part → Type 0
FitTogether [] = Unit {0}
FitTogether (part ∷ parts) = FitsAbove part parts × FitTogether parts

-- A well-formed path: there is a part, and each fits above those beneath it. So the last one is the only leaf.
pub record IsPath (parts : List Part) : Type 0 where
  pub some : 0 < length parts
  pub fits : FitTogether parts

-- the slots at count places from place on
unfoldable pub slots_from : (ℕ → Slot) → ℕ → ℕ → List Slot
slots_from at place zero = []
slots_from at place (suc count) = at place ∷ slots_from at (place + 1) count

-- The slot at position i of a path, over the slots that the leaf array has: a value, or null, as a null entry of a dictionary is.
-- What lies beneath a null is not looked at.
unfoldable pub slot_in : (ℕ → Slot) → List Part → ℕ → Slot
slot_in leaf [] i = null
slot_in leaf (leaf_part is_optional mask count ∷ parts) i = cond (is_present is_optional mask i) (leaf i) null
slot_in leaf (list_part is_optional mask offsets ∷ parts) i =
    cond (is_present is_optional mask i) (items (slots_of (slots_from (slot_in leaf parts) (item_start offsets i) (item_count offsets i)))) null
slot_in leaf (struct_part is_optional mask count ∷ parts) i =
    cond (is_present is_optional mask i) (fields (slot (slot_in leaf parts i) no_slots)) null

-- the slots of a path
unfoldable pub path_slots : (ℕ → Slot) → List Part → List Slot
path_slots leaf parts = slots_from (slot_in leaf parts) 0 (slot_count parts)

-- the way to the leaf of a path: a path has one child for each struct
abbrev pub path_way : List Part → Way
path_way [] = at_leaf false
path_way (leaf_part is_optional mask count ∷ parts) = at_leaf is_optional
path_way (list_part is_optional mask offsets ∷ parts) = in_list is_optional (path_way parts)
path_way (struct_part is_optional mask count ∷ parts) = in_struct is_optional zero (path_way parts)
