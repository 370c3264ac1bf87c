-- The places of its leaf that a path reaches: those of slots that are present all the way down (Arrow columnar format, "Validity bitmaps",
-- "Variable-size List Layout", "Struct Layout"). At these stand the values of the path's column (Dremel paper, section 4.2).
use Rattle.std.specs.Prelude.{◌≡◌, refl, ℕ, zero, suc, ◌+◌, ◌-◌, ◌==◌, cond, List, [], ◌∷◌, ◌++◌}
use Rattle.std.specs.Int.{bit_at}
use Rattle.shredding.specs.Parts.{Part, leaf_part, list_part, struct_part, is_present, item_start, item_count, slot_count}

-- what so many places from a place on give, one after another
unfoldable pub gather : {A : Type 0} → (ℕ → List A) → ℕ → ℕ → List A
gather piece place zero = []
gather piece place (suc count) = piece place ++ gather piece (place + 1) count

-- so many places from one on
abbrev pub range : ℕ → ℕ → List ℕ
range from count = gather (λ i. i ∷ []) from count

-- of so many places from one on, those whose bits in a word are set, the lowest bit first
abbrev pub picked : ℕ → ℕ → ℕ → List ℕ
picked word from count = gather (λ i. cond (bit_at word (i - from) == 1) (i ∷ []) []) from count

-- ten is 1010
worked : picked 10 5 4 ≡ 6 ∷ 8 ∷ []
unfolding gather
worked = refl

-- the places of the leaf that the slot at a place reaches: of a list those of its items, which count from the first offset
unfoldable pub slot_places : List Part → ℕ → List ℕ
slot_places [] i = []
slot_places (leaf_part is_optional mask count ∷ parts) i = cond (is_present is_optional mask i) (i ∷ []) []
slot_places (list_part is_optional mask offsets ∷ parts) i = cond (is_present is_optional mask i) (gather (slot_places parts) (item_start offsets i) (item_count offsets i)) []
slot_places (struct_part is_optional mask count ∷ parts) i = cond (is_present is_optional mask i) (slot_places parts i) []

-- those of all slots of a path
abbrev pub path_places : List Part → List ℕ
path_places parts = gather (slot_places parts) 0 (slot_count parts)
