-- A slot as it is seen along one way.
use Rattle.std.specs.Prelude.{zero, IsTrue, map, All}
use Rattle.shredding.specs.Shape.{Way, at_leaf, in_list, in_struct}
use Rattle.shredding.specs.Slot.{Slot, null, value, items, fields, no_slots, slot, list_of, slots_of, slot_at}

-- along the way the slot is null only where that is allowed, and has the kind of each part
abbrev pub IsAlong : Way → Slot → Type 0
IsAlong (at_leaf n) null = IsTrue n
IsAlong (at_leaf n) (value v) = Unit {0}
IsAlong (in_list n w) null = IsTrue n
IsAlong (in_list n w) (items ss) = All (IsAlong w) (list_of ss)
IsAlong (in_struct n i w) null = IsTrue n
IsAlong (in_struct n i w) (fields ss) = IsAlong w (slot_at ss i)
IsAlong _ _ = ⊥

-- the slot with the one child in each struct that the way goes through
unfoldable pub along : Way → Slot → Slot
along (at_leaf n) (value v) = value v
along (in_list n w) (items ss) = items (slots_of (map (along w) (list_of ss)))
along (in_struct n i w) (fields ss) = fields (slot (along w (slot_at ss i)) no_slots)
along _ _ = null

-- the way to the only leaf of such a slot
abbrev pub thin : Way → Way
thin (at_leaf n) = at_leaf n
thin (in_list n w) = in_list n (thin w)
thin (in_struct n i w) = in_struct n zero (thin w)
