-- The numbers of level pairs.
use Rattle.std.specs.Prelude.{◌≡◌, ℕ, zero, suc, ◌+◌, ◌-◌, Bool, Option, cond, max, List, [], ◌∷◌}
use Rattle.columns_core.specs.Rising.{IsRising}
use Rattle.shredding.specs.Parts.{Part, leaf_part, list_part, struct_part, is_present, item_start, item_count}

-- the sum of the sizes of count places
unfoldable pub total : (ℕ → ℕ) → ℕ → ℕ → ℕ
total size place zero = 0
total size place (suc count) = size place + total size (place + 1) count

-- the same, or one where there is no place
unfoldable pub total_or_one : (ℕ → ℕ) → ℕ → ℕ → ℕ
total_or_one size place zero = 1
total_or_one size place (suc count) = total size place (suc count)

-- the number of level pairs of a slot
unfoldable pub slot_size : List Part → ℕ → ℕ
slot_size [] i = 1
slot_size (leaf_part is_optional mask count ∷ parts) i = 1
slot_size (list_part is_optional mask offsets ∷ parts) i =
    cond (is_present is_optional mask i) (total_or_one (slot_size parts) (item_start offsets i) (item_count offsets i)) 1
slot_size (struct_part is_optional mask count ∷ parts) i = cond (is_present is_optional mask i) (slot_size parts i) 1

-- the number of level pairs of list i above a path without lists
abbrev pub list_size : Bool → Option (List Bool) → List ℕ → ℕ → ℕ
list_size is_optional mask offsets i = cond (is_present is_optional mask i) (max (item_count offsets i) 1) 1

-- a list's offsets rise
abbrev pub RisesIn : Part → Type 0
RisesIn (leaf_part is_optional mask count) = Unit {0}
RisesIn (list_part is_optional mask offsets) = IsRising offsets
RisesIn (struct_part is_optional mask count) = Unit {0}

-- the offsets of all lists rise
abbrev pub AreRising : List Part → Type 0
AreRising [] = Unit {0}
AreRising (part ∷ parts) = RisesIn part × AreRising parts

-- one where list i has no items
abbrev pub empty_size : List ℕ → ℕ → ℕ
empty_size offsets i = 1 - item_count offsets i

-- no list beneath slot i has items, down to the first list
abbrev pub HasNoItems : List Part → ℕ → Type 0
HasNoItems [] i = Unit {0}
HasNoItems (leaf_part is_optional mask count ∷ parts) i = Unit {0}
HasNoItems (list_part is_optional mask offsets ∷ parts) i = item_count offsets i ≡ 0
HasNoItems (struct_part is_optional mask count ∷ parts) i = HasNoItems parts i
