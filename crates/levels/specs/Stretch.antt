-- A stretch of slots of a path that are alike in one of their levels, as a walk takes them at once.
use Rattle.std.specs.Prelude.{◌≡◌, ℕ, zero, suc, ◌+◌, ◌-◌, ◌<◌, ◌≤◌, Bool, true, Option, List, [], ◌∷◌, length, map, replicate}
use Rattle.shredding.specs.Parts.{Part, IsPath, slot_count, path_way, is_present, item_start}
use Rattle.shredding.specs.Shred.{max_repetition, max_definition}
use Rattle.levels.specs.declared.walk.Level.{Level}
use Rattle.levels.specs.declared.walk.Level.TheVariants.{Repetition, Definition}
use Rattle.levels.specs.declared.walk.Stretch.{Stretch}
use Rattle.levels.specs.declared.walk.Stretch.TheVariants.{Ends, Below, Items}
use Rattle.levels.specs.Nested.{parts_of}
use Rattle.levels.specs.Levels.{run, slot_pairs}

-- the level of a pair that is asked for
abbrev pub level_of : Level → ℕ × ℕ → ℕ
level_of Repetition pair = pair.0
level_of Definition pair = pair.1

-- so many pairs of one definition level, the first with repetition rep and the others with depth
unfoldable pub like_pairs : ℕ → ℕ → ℕ → ℕ → List (ℕ × ℕ)
like_pairs rep depth def zero = []
like_pairs rep depth def (suc count) = (rep, def) ∷ replicate count (depth, def)

-- the place behind a stretch
abbrev pub stretch_end : ℕ → Stretch → ℕ
stretch_end place (Ends up end) = end
stretch_end place (Below rest up end) = end
stretch_end place (Items rest up from to end) = end

-- the level pairs whose levels a stretch stands for, beneath def definition levels and depth lists
abbrev pub stretch_pairs : ℕ → ℕ → ℕ → ℕ → Stretch → List (ℕ × ℕ)
stretch_pairs def depth rep place (Ends up end) = like_pairs rep depth (def + up) (end - place)
stretch_pairs def depth rep place (Below rest up end) = run (slot_pairs (parts_of rest.now) (def + up) depth) rep depth place (end - place)
stretch_pairs def depth rep place (Items rest up from to end) = run (slot_pairs (parts_of rest.now) (def + up) (depth + 1)) rep (depth + 1) from (to - from)

-- the rest of a path, which has one part less, and what levels it has left
pub record IsRest (parts : List Part) (count lists levels : ℕ) (rest : List Part) (few : ℕ) : Type 0 where
  pub well : IsPath rest
  pub one_less : few + 1 ≡ count
  pub repetition : max_repetition (path_way rest) + lists ≤ max_repetition (path_way parts)
  pub definition : max_definition (path_way rest) + levels ≤ max_definition (path_way parts)

-- the stretch ends behind its place and not behind the last one, and what lies beneath it has the places named
abbrev pub StretchFits : List Part → ℕ → ℕ → ℕ → Stretch → Type 0
StretchFits parts count place last (Ends up end) = (place < end) × (end ≤ last) × (up ≤ 1) × (up ≤ max_definition (path_way parts))
StretchFits parts count place last (Below rest up end) =
    (place < end) × (end ≤ last) × (up ≤ 1) × IsRest parts count 0 up (parts_of rest.now) (length rest.now) × (end ≤ slot_count (parts_of rest.now))
StretchFits parts count place last (Items rest up from to end) =
    (place < end) × (end ≤ last) × (from < to) × (up ≤ 2) × IsRest parts count 1 up (parts_of rest.now) (length rest.now) × (to ≤ slot_count (parts_of rest.now))

-- the stretch of a path of count parts from a place on, at most to the last one, as to the level that is asked for
pub record IsStretch (level : Level) (parts : List Part) (count place last : ℕ) (stretch : Stretch) : Type 0 where
  pub fits : StretchFits parts count place last stretch
  pub levels : (def depth rep : ℕ) → map (level_of level) (run (slot_pairs parts def depth) rep depth place (stretch_end place stretch - place)) ≡ map (level_of level) (stretch_pairs def depth rep place stretch)

-- count places from place on are all present, or all null
abbrev pub AreAlike : (ℕ → Bool) → Bool → ℕ → ℕ → Type 0
AreAlike at there place end = (i : ℕ) → place ≤ i → i < end → at i ≡ there

-- the lists from place on are all present and have items
abbrev pub AreFull : Bool → Option (List Bool) → List ℕ → ℕ → ℕ → Type 0
AreFull is_optional mask offsets place end = (i : ℕ) → place ≤ i → i < end → (is_present is_optional mask i ≡ true) × (item_start offsets i < item_start offsets (i + 1))

-- the lists from place on have items
abbrev pub HaveItems : List ℕ → ℕ → ℕ → Type 0
HaveItems offsets place end = (i : ℕ) → place ≤ i → i < end → item_start offsets i < item_start offsets (i + 1)
