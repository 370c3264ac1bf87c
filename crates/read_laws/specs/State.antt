-- The nested state that the level pairs of a leaf build: what each part keeps of its pushes, and the slots that it stands for.
-- (Dremel paper, section 4.3, "Record Assembly"; Arrow columnar format, "Variable-size List Layout" and "Struct Layout".)
use Rattle.std.specs.Prelude.{◌≡◌, ℕ, zero, ◌+◌, ◌-◌, ◌<◌, ◌≤◌, Bool, false, cond, is_some, Option, List, [], ◌∷◌, length, slice_index, slice_index_or}
use Rattle.shredding.specs.Slot.{Slot, null, items, fields, no_slots, slot, slots_of}
use Rattle.shredding.specs.Shape.{Way, at_leaf, in_list, in_struct}
use Rattle.shredding.specs.Parts.{keeps, slots_from, MaskFits}

-- What a part keeps: a leaf whether it is nullable and its number of pushes, a list its validities where it is nullable and the
-- length that the part beneath had at each push, a struct its validities where it is nullable and its number of pushes.
pub data Kept : Type 0 where
  kept_leaf : Bool → ℕ → Kept
  kept_list : Option (List Bool) → List ℕ → Kept
  kept_struct : Option (List Bool) → ℕ → Kept

-- the number of pushes
abbrev pub size : Kept → ℕ
size (kept_leaf n c) = c
size (kept_list m starts) = length starts
size (kept_struct m c) = c

-- the number of slots of a state
abbrev pub count : List Kept → ℕ
count [] = 0
count (k ∷ ks) = size k

-- the end of item i: the start of the next, or where it is the last, the length of the part beneath
abbrev pub item_end : List ℕ → ℕ → ℕ → ℕ
item_end starts below i = slice_index_or starts (i + 1) below

-- The slot at a place of a state over the slots of its leaf, places counted from 0. What lies beneath a null is not looked at.
unfoldable pub kept_slot : (ℕ → Slot) → List Kept → ℕ → Slot
kept_slot leaf [] i = null
kept_slot leaf (kept_leaf n c ∷ ks) i = leaf i
kept_slot leaf (kept_list m starts ∷ ks) i =
    cond (keeps m i) (items (slots_of (slots_from (kept_slot leaf ks) (slice_index starts i) (item_end starts (count ks) i - slice_index starts i)))) null
kept_slot leaf (kept_struct m c ∷ ks) i = cond (keeps m i) (fields (slot (kept_slot leaf ks i) no_slots)) null

-- the slots of a state
unfoldable pub kept_slots : (ℕ → Slot) → List Kept → List Slot
kept_slots leaf ks = slots_from (kept_slot leaf ks) 0 (count ks)

-- the way to the leaf
abbrev pub kept_way : List Kept → Way
kept_way [] = at_leaf false
kept_way (kept_leaf n c ∷ ks) = at_leaf n
kept_way (kept_list m starts ∷ ks) = in_list (is_some m) (kept_way ks)
kept_way (kept_struct m c ∷ ks) = in_struct (is_some m) zero (kept_way ks)

-- A state fits: it ends in its only leaf, masks are as long as their parts, no start of a list passes the length of the part beneath or
-- falls, and a struct is as long as the part beneath it.
abbrev pub StateFits : List Kept → Type 0
StateFits [] = ⊥
StateFits (kept_leaf n c ∷ ks) = length ks ≡ 0
StateFits (kept_list m starts ∷ ks) =
    MaskFits m (length starts) × ((i : ℕ) → i < length starts → slice_index starts i ≤ count ks) × ((i j : ℕ) → i ≤ j → j < length starts → slice_index starts i ≤ slice_index starts j) × StateFits ks
StateFits (kept_struct m c ∷ ks) = MaskFits m c × (count ks ≡ c) × StateFits ks

-- the number of slots of the leaf
abbrev pub leaf_count : List Kept → ℕ
leaf_count [] = 0
leaf_count (kept_leaf n c ∷ ks) = c
leaf_count (kept_list m starts ∷ ks) = leaf_count ks
leaf_count (kept_struct m c ∷ ks) = leaf_count ks
