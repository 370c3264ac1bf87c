-- A path that is merely in bounds, as a cut leaves it: places count from 0, and a part may have more slots than the one above it spans.
use Rattle.std.specs.Prelude.{◌≡◌, ◌<◌, ◌≤◌, ℕ, ◌+◌, ◌-◌, cond, List, [], ◌∷◌, length, slice_index}
use Rattle.shredding.specs.Slot.{Slot, null, items, fields, no_slots, slot, slots_of}
use Rattle.shredding.specs.Parts.{Part, leaf_part, list_part, struct_part, is_present, MaskFits, slot_count, slots_from}

-- the place behind the items of the last list
abbrev pub item_end : List ℕ → ℕ
item_end offsets = slice_index offsets (length offsets - 1)

-- The part reaches no place that the part beneath it lacks: a leaf is the last part, a list or struct is not, masks are as long as their
-- parts, a struct's child is as long as it is, and a list's child has at least as many slots as the last offset says.
abbrev pub ReachesInto : Part → List Part → Type 0
ReachesInto (leaf_part is_optional mask count) beneath = MaskFits mask count × (length beneath ≡ 0)
ReachesInto (list_part is_optional mask offsets) beneath = MaskFits mask (length offsets - 1) × (item_end offsets ≤ slot_count beneath) × (0 < length beneath)
ReachesInto (struct_part is_optional mask count) beneath = MaskFits mask count × (slot_count beneath ≡ count) × (0 < length beneath)

abbrev pub AreWithin : List Part → Type 0
AreWithin [] = Unit {0}
AreWithin (part ∷ parts) = ReachesInto part parts × AreWithin parts

-- A path in bounds: there is a part, and each reaches no place that the part beneath it lacks. So the last one is the only leaf.
pub record IsInBounds (parts : List Part) : Type 0 where
  pub some : 0 < length parts
  pub fits : AreWithin parts

-- The slot at position i of a path in bounds, over the slots that the leaf array has. Offsets are places in the next part as they stand.
unfoldable pub bounded_slot : (ℕ → Slot) → List Part → ℕ → Slot
bounded_slot leaf [] i = null
bounded_slot leaf (leaf_part is_optional mask count ∷ parts) i = cond (is_present is_optional mask i) (leaf i) null
bounded_slot leaf (list_part is_optional mask offsets ∷ parts) i =
    cond (is_present is_optional mask i) (items (slots_of (slots_from (bounded_slot leaf parts) (slice_index offsets i) (slice_index offsets (i + 1) - slice_index offsets i)))) null
bounded_slot leaf (struct_part is_optional mask count ∷ parts) i =
    cond (is_present is_optional mask i) (fields (slot (bounded_slot leaf parts i) no_slots)) null

-- the slots of a path in bounds
unfoldable pub bounded_slots : (ℕ → Slot) → List Part → List Slot
bounded_slots leaf parts = slots_from (bounded_slot leaf parts) 0 (slot_count parts)
