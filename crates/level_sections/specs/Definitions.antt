-- Definition levels of lists above a path without lists.
use Rattle.std.specs.Prelude.{◌≡◌, ℕ, zero, suc, ◌+◌, ◌-◌, ◌<◌, ◌≤◌, Bool, cond, Option, List, [], ◌∷◌, ◌++◌}
use Rattle.shredding.specs.Parts.{Part, is_present, item_start, item_count}
use Rattle.levels.specs.Levels.{bit}
use Rattle.level_sections.specs.Planes.{plane_number, plane_numbers}
use Rattle.level_sections.specs.declared.planes.Pending.{Pending}
use Rattle.level_sections.specs.declared.items.Window.{Window}
use Rattle.level_sections.specs.Blocks.{flat_level, levels_from}

-- the levels that wait, above one that all have
abbrev pub pending_levels : ℕ → Pending → List ℕ
pending_levels low pending = plane_numbers low pending.planes 0 pending.count

-- the levels of so many places, or one other where there is none
abbrev pub levels_or : ℕ → (ℕ → ℕ) → ℕ → ℕ → List ℕ
levels_or empty level place zero = empty ∷ []
levels_or empty level place (suc count) = levels_from level place (suc count)

-- the definition levels of list i, beneath def levels
abbrev pub list_definitions : Bool → Option (List Bool) → List ℕ → List Part → ℕ → ℕ → List ℕ
list_definitions is_optional mask offsets parts def i =
    cond (is_present is_optional mask i) (levels_or (def + bit is_optional) (flat_level parts (def + bit is_optional + 1)) (item_start offsets i) (item_count offsets i)) (def ∷ [])

-- the levels of so many lists from a place on
unfoldable pub listed_from : (ℕ → List ℕ) → ℕ → ℕ → List ℕ
listed_from levels place zero = []
listed_from levels place (suc count) = levels place ++ listed_from levels (place + 1) count

-- the levels of some places above one that all have
abbrev pub IsWindow : ℕ → (ℕ → ℕ) → Window → Type 0
IsWindow low level window = (j : ℕ) → window.first ≤ j → j < window.end → low + plane_number window.planes (j - window.first) ≡ level j

-- behind the levels that wait stand those of a window from a place on
abbrev pub IsFollowed : Pending → Window → ℕ → Type 0
IsFollowed pending window place = (i : ℕ) → pending.count + i < 64 → place + i < window.end → plane_number pending.planes (pending.count + i) ≡ plane_number window.planes (place + i - window.first)
