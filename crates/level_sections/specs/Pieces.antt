-- Levels of slots side by side, and where those of each begin.
use Rattle.std.specs.Prelude.{◌≡◌, ℕ, ◌+◌, ◌≤◌, Bool, List, ◌∷◌, drop, length, slice_index}
use Rattle.levels.specs.Levels.{bit}
use Rattle.levels.specs.declared.walk.Level.{Level}
use Rattle.levels.specs.declared.walk.Level.TheVariants.{Repetition, Definition}
use Rattle.level_sections.specs.declared.pieces.Pieces.{Pieces}
use Rattle.level_sections.specs.declared.walk.Above.{Above}

-- what lies above the items of lists, each of them as one that is not the first of its list
abbrev pub above_items : Above → Bool → Above
above_items above is_optional = record { rep = above.depth + 1; def = above.def + bit is_optional + 1; depth = above.depth + 1 }

-- what lies above what is in structs
abbrev pub above_fields : Above → Bool → Above
above_fields above is_optional = record { rep = above.rep; def = above.def + bit is_optional; depth = above.depth }

-- levels, the first of which begins with another repetition level
unfoldable pub with_first : Level → ℕ → List ℕ → List ℕ
with_first Repetition rep levels = rep ∷ drop 1 levels
with_first Definition rep levels = levels

-- the levels of so many slots are told, and those of each stand from its start on
pub record AreTold (levels : ℕ → List ℕ) (count : ℕ) (pieces : Pieces) : Type 0 where
  pub few : count ≤ 2048
  pub told : pieces.told ≡ levels count
  pub starts : (i : ℕ) → i ≤ count → slice_index pieces.starts i ≡ length (levels i)
