-- The level sections of a data page (Parquet format, "Data Pages" and "Nested Encoding").
use Rattle.std.specs.Prelude.{◌≡◌, ℕ, ◌+◌, ◌*◌, ◌≤◌, Bool, Option, Some, None, List, [], ◌∷◌, ◌++◌, length, map}
use Rattle.std.proofs.Common.{Bor}
use Rattle.shredding.specs.Parts.{Part, leaf_part, path_slots}
use Rattle.shredding.specs.Slot.{Value, value}
use Rattle.shredding.specs.Shape.{Way, at_leaf}
use Rattle.levels.specs.Levels.{path_pairs}
use Rattle.levels.specs.Stretch.{level_of}
use Rattle.level_sections.specs.Walk.{greatest}
use Rattle.levels.specs.declared.walk.Level.TheVariants.{Repetition, Definition}
use Rattle.shredding.specs.Shred.{Triple, column, max_repetition, max_definition}
use Rattle.pq_tree.specs.declared.version.Version.{Version}
use Rattle.pq_tree.specs.declared.version.Version.TheVariants.{V1, V2}
use Rattle.pq_files.specs.Levels.{IsBehindLength}
use Rattle.pq_files.specs.Packed.{AreLevels}
use Rattle.pq_files.specs.Room.{level_room}
use Rattle.pq_runs.specs.Stretches.{IsShort}

-- where the section stands: in version 1 behind its length, in version 2 alone
abbrev pub Stands : Version → ℕ → List ℕ → List ℕ → Type 0
Stands V1 max text section = (rest : List ℕ) → IsBehindLength max (text ++ rest) section rest
Stands V2 max text section = text ≡ section

-- The text is a section of these levels and no other byte. The section repeats equal levels.
pub record HoldsLevels (version : Version) (max : ℕ) (text levels : List ℕ) : Type 0 where
  pub section : List ℕ
  pub stands : Stands version max text section
  pub are : AreLevels max section levels
  pub short : IsShort are.width section levels

-- what is appended is a section of these levels
pub record AppendsLevels (version : Version) (max : ℕ) (before after levels : List ℕ) : Type 0 where
  pub text : List ℕ
  pub parts : after ≡ before ++ text
  pub holds : HoldsLevels version max text levels
  pub room : length text ≤ level_room (length levels)

-- What is appended is the section of repetition levels and that of definition levels of a column, of these lengths, within their room: in no
-- more than two bytes a pair and 24.
pub record AppendsSections (version : Version) (w : Way) (ts : List Triple) (before after : List ℕ) (sizes : ℕ × ℕ) : Type 0 where
  pub repetition : List ℕ
  pub definition : List ℕ
  pub parts : after ≡ before ++ (repetition ++ definition)
  pub repetitions : HoldsLevels version (max_repetition w) repetition (map (λ t. t.repetition) ts)
  pub definitions : HoldsLevels version (max_definition w) definition (map (λ t. t.definition) ts)
  pub sizes_are : sizes ≡ (length repetition, length definition)
  pub tight : length repetition + length definition ≤ 2 * length ts + 24
  pub room : length repetition + length definition ≤ level_room (length ts)

-- one section in little more than its levels' bits
pub record AppendsOne (version : Version) (max : ℕ) (before after levels : List ℕ) (size : ℕ) : Type 0 where
  pub text : List ℕ
  pub parts : after ≡ before ++ text
  pub holds : HoldsLevels version max text levels
  pub size_is : size ≡ length text
  pub tight : 504 * length text ≤ (63 * holds.are.width + 1) * length levels + 441 * holds.are.width + 2520

-- both sections of a path
pub record AppendsBoth (version : Version) (parts : List Part) (before after : List ℕ) (repetition definition : ℕ) : Type 0 where
  pub mid : List ℕ
  pub repetitions : AppendsOne version (greatest Repetition parts) before mid (map (level_of Repetition) (path_pairs parts)) repetition
  pub definitions : AppendsOne version (greatest Definition parts) mid after (map (level_of Definition) (path_pairs parts)) definition

-- ---- flat columns

-- a mask as it is lent
abbrev pub mask_of : Option (Bor (List Bool)) → Option (List Bool)
mask_of None = None
mask_of (Some mask) = Some mask.now

-- the column of a leaf alone: its slots are values, or null by the mask where the leaf is optional
abbrev pub flat_column : (ℕ → Value) → Bool → Option (List Bool) → ℕ → List Triple
flat_column values is_optional mask count = column (at_leaf is_optional) (path_slots (λ i. value (values i)) (leaf_part is_optional mask count ∷ []))
