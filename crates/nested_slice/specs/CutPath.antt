-- What a cut of a path to some of its rows leaves (Arrow columnar format, "Variable-size List Layout", "Struct Layout", "Validity bitmaps").
-- Each part keeps n positions from position o on. Of a list it keeps the offsets of these lists, and they keep their numbers; the places from
-- the first to the last of them are the rows that the next part keeps.
use Rattle.std.specs.Prelude.{ℕ, ◌+◌, ◌-◌, Bool, Option, List, [], ◌∷◌, take, drop, slice_index}
use Rattle.shredding.specs.Parts.{Part, leaf_part, list_part, struct_part}
use Rattle.columns_core.specs.Rising.{IsRising}
use Rattle.columns_slots.specs.Slots.{cut_mask}

-- a part at n positions from position o on
abbrev pub cut_part : Part → ℕ → ℕ → Part
cut_part (leaf_part is_optional mask count) o n = leaf_part is_optional (cut_mask mask o n) n
cut_part (list_part is_optional mask offsets) o n = list_part is_optional (cut_mask mask o n) (take (n + 1) (drop o offsets))
cut_part (struct_part is_optional mask count) o n = struct_part is_optional (cut_mask mask o n) n

-- the first row of the next part that these positions reach
abbrev pub first_beneath : Part → ℕ → ℕ
first_beneath (leaf_part is_optional mask count) o = o
first_beneath (list_part is_optional mask offsets) o = slice_index offsets o
first_beneath (struct_part is_optional mask count) o = o

-- the number of rows of the next part that these positions reach
abbrev pub count_beneath : Part → ℕ → ℕ → ℕ
count_beneath (leaf_part is_optional mask count) o n = n
count_beneath (list_part is_optional mask offsets) o n = slice_index offsets (o + n) - slice_index offsets o
count_beneath (struct_part is_optional mask count) o n = n

-- a path at n rows from row o on
abbrev pub cut_parts : List Part → ℕ → ℕ → List Part
cut_parts [] o n = []
cut_parts (part ∷ parts) o n = cut_part part o n ∷ cut_parts parts (first_beneath part o) (count_beneath part o n)

-- the first position of the leaf that these rows reach, and the number of its positions
abbrev pub leaf_rows : List Part → ℕ → ℕ → ℕ × ℕ
leaf_rows [] o n = (o, n)
leaf_rows (part ∷ parts) o n = leaf_rows parts (first_beneath part o) (count_beneath part o n)

-- the offsets of a part never fall
abbrev pub Rises : Part → Type 0
Rises (leaf_part is_optional mask count) = Unit {0}
Rises (list_part is_optional mask offsets) = IsRising offsets
Rises (struct_part is_optional mask count) = Unit {0}

-- offsets never fall, as those of every list in memory
abbrev pub AreRising : List Part → Type 0
AreRising [] = Unit {0}
AreRising (part ∷ parts) = Rises part × AreRising parts

-- the mask of a part
abbrev pub part_mask : Part → Option (List Bool)
part_mask (leaf_part is_optional mask count) = mask
part_mask (list_part is_optional mask offsets) = mask
part_mask (struct_part is_optional mask count) = mask

-- the mask of the last leaf
abbrev pub leaf_mask_or : Option (List Bool) → List Part → Option (List Bool)
leaf_mask_or before [] = before
leaf_mask_or before (leaf_part is_optional mask count ∷ parts) = leaf_mask_or mask parts
leaf_mask_or before (list_part is_optional mask offsets ∷ parts) = leaf_mask_or before parts
leaf_mask_or before (struct_part is_optional mask count ∷ parts) = leaf_mask_or before parts
