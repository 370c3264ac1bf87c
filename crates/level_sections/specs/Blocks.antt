-- Definition levels of a path without lists, slot by slot.
use Rattle.std.specs.Prelude.{◌≡◌, ℕ, zero, suc, ◌+◌, ◌<◌, ◌≤◌, ◌==◌, Bool, cond, List, [], ◌∷◌, length}
use Rattle.std.specs.Int.{bit_at}
use Rattle.shredding.specs.Parts.{Part, leaf_part, list_part, struct_part, is_present, MaskFits}
use Rattle.levels.specs.Nested.{parts_of}
use Rattle.levels.specs.Levels.{bit}
use Rattle.level_sections.specs.declared.block.Front.{Front}
use Rattle.level_sections.specs.declared.block.Front.TheVariants.{Even, Mixed}

-- whether a leaf or a struct is optional
abbrev pub part_optional : Part → Bool
part_optional (leaf_part is_optional mask count) = is_optional
part_optional (list_part is_optional mask offsets) = is_optional
part_optional (struct_part is_optional mask count) = is_optional

-- whether its slot is there
abbrev pub part_present : Part → ℕ → Bool
part_present (leaf_part is_optional mask count) i = is_present is_optional mask i
part_present (list_part is_optional mask offsets) i = is_present is_optional mask i
part_present (struct_part is_optional mask count) i = is_present is_optional mask i

-- the definition level of a slot of a path without lists, beneath def levels
unfoldable pub flat_level : List Part → ℕ → ℕ → ℕ
flat_level [] def i = def
flat_level (part ∷ parts) def i = cond (part_present part i) (flat_level parts (def + bit (part_optional part)) i) def

-- the levels of so many places
unfoldable pub levels_from : (ℕ → ℕ) → ℕ → ℕ → List ℕ
levels_from level place zero = []
levels_from level place (suc count) = level place ∷ levels_from level (place + 1) count

-- a leaf or a struct with slots to a place
abbrev pub PartReaches : ℕ → Part → Type 0
PartReaches to (leaf_part is_optional mask count) = MaskFits mask count × (to ≤ count)
PartReaches to (list_part is_optional mask offsets) = ⊥
PartReaches to (struct_part is_optional mask count) = MaskFits mask count × (to ≤ count)

-- no part is a list, and each has slots to a place
abbrev pub Reaches : ℕ → List Part → Type 0
Reaches to [] = Unit {0}
Reaches to (part ∷ parts) = PartReaches to part × Reaches to parts

-- what the first parts say of some slots: they have one level, or each goes on beneath where its bit is set
abbrev pub IsFront : List Part → ℕ → ℕ → ℕ → Front → Type 0
IsFront parts def place count (Even level) = (i : ℕ) → i < count → flat_level parts def (place + i) ≡ level
IsFront parts def place count (Mixed rest level word) =
    ((i : ℕ) → i < count → flat_level parts def (place + i) ≡ cond (bit_at word i == 1) (flat_level (parts_of rest.now) (level + 1) (place + i)) level)
    × Reaches (place + count) (parts_of rest.now)
    × (level + 1 + length rest.now ≤ 256)
