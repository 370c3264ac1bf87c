-- The levels that a walk over a path writes.
use Rattle.std.specs.Prelude.{◌≡◌, ℕ, ◌+◌, ◌*◌, ◌^◌, ◌<◌, ◌≤◌, List, [], ◌∷◌, ◌++◌, length, map}
use Rattle.shredding.specs.Parts.{Part, leaf_part, list_part, struct_part, path_way}
use Rattle.shredding.specs.Shred.{max_repetition, max_definition}
use Rattle.levels.specs.Levels.{run, slot_pairs}
use Rattle.levels.specs.Stretch.{level_of}
use Rattle.levels.specs.declared.walk.Level.{Level}
use Rattle.levels.specs.declared.walk.Level.TheVariants.{Repetition, Definition}
use Rattle.pq_runs.specs.Writing.{Keeps, Waiting}
use Rattle.level_sections.specs.declared.walk.Above.{Above}
use Rattle.level_sections.specs.declared.walk.Shape.{Shape}
use Rattle.level_sections.specs.declared.walk.Shape.TheVariants.{Flat, Lists, LargeLists, Items, Stretches}

-- the greatest level of a path
abbrev pub greatest : Level → List Part → ℕ
greatest Repetition parts = max_repetition (path_way parts)
greatest Definition parts = max_definition (path_way parts)

-- the levels of the slots of a path from one place to another, beneath what lies above
abbrev pub walked : Level → List Part → Above → ℕ → ℕ → List ℕ
walked level parts above place count = map (level_of level) (run (slot_pairs parts above.def above.depth) above.rep above.depth place count)

-- levels of so many further parts are below 256
pub record IsLow (above : Above) (count : ℕ) : Type 0 where
  pub first : above.rep ≤ above.depth
  pub def : above.def + 2 * count ≤ 256
  pub depth : above.depth + count ≤ 128

-- so many bits hold the levels above and so many more
abbrev pub Holds : Level → Above → ℕ → ℕ → ℕ → Type 0
Holds Repetition above lists levels width = above.depth + lists < 2 ^ width
Holds Definition above lists levels width = above.def + levels < 2 ^ width

-- what a walk has told a writer, and what it has left to tell
pub record Goes (start out : List ℕ) (w : Waiting) (left whole : List ℕ) : Type 0 where
  pub done : List ℕ
  pub all : done ++ left ≡ whole
  pub keeps : Keeps start out w done

-- the path is a list over one without lists, whose repetition levels are asked for
pub record IsListAbove (level : Level) (parts : List Part) (list : Part) : Type 0 where
  pub is_repetition : level ≡ Repetition
  pub rest : List Part
  pub whole : parts ≡ list ∷ rest
  pub flat : max_repetition (path_way rest) ≡ 0

-- the path is a list over a path without lists, which has few parts, and its definition levels are asked for
abbrev pub IsOfItems : List Part → Type 0
IsOfItems [] = ⊥
IsOfItems (leaf_part is_optional mask count ∷ parts) = ⊥
IsOfItems (list_part is_optional mask offsets ∷ parts) = (max_repetition (path_way parts) ≡ 0) × (length parts ≤ 5)
IsOfItems (struct_part is_optional mask count ∷ parts) = ⊥

abbrev pub AreItems : Level → List Part → Type 0
AreItems level parts = (level ≡ Definition) × IsOfItems parts

-- how a path is told: all slots at once, lists at once, or stretch by stretch
abbrev pub IsShape : Level → List Part → Shape → Type 0
IsShape level parts Flat = max_repetition (path_way parts) ≡ 0
IsShape level parts (Lists list) = IsListAbove level parts (list_part list.now.is_optional list.now.validity list.now.offsets)
IsShape level parts (LargeLists list) = IsListAbove level parts (list_part list.now.is_optional list.now.validity list.now.offsets)
IsShape level parts Items = AreItems level parts
IsShape level parts Stretches = Unit {0}
