-- Sections of values that were spelled by deltas, spelled plain.
use Rattle.std.specs.Prelude.{◌≡◌, ◌↔◌, ℕ, ◌≤◌, List, ◌++◌, length, take, drop}
use Rattle.shredding.specs.Slot.{Value, bytes}
use Rattle.pq_numbers.specs.Texts.{Begins}
use Rattle.pq_tree.specs.Physical.{Physical, byte_array}
use Rattle.pq_files.specs.Plain.{IsOne, IsPlain}

-- The plain spelling of so many values was appended, which are those that the section begins with: lists of as many values stand at the front of the
-- section exactly where they are spelled by what was appended, and there is such a list.
pub record TurnsPlain (Spells : List ℕ → List Value → Type 0) (p : Physical) (count : ℕ) (section before after : List ℕ) : Type 0 where
  pub text : List ℕ
  pub parts : after ≡ before ++ text
  pub values : List Value
  pub counts : length values ≡ count
  pub begins : Begins Spells section values
  pub plain : IsPlain p text values
  pub same : (vs : List Value) → length vs ≡ count → Begins Spells section vs ↔ IsPlain p text vs

-- the section begins with no list of so many values
abbrev pub SpellsNone : (List ℕ → List Value → Type 0) → ℕ → List ℕ → Type 0
SpellsNone Spells count section = (vs : List Value) → length vs ≡ count → Begins Spells section vs → ⊥

-- The plain spelling of the string of so many bytes at the front was appended, and the rest is left.
abbrev pub TakesString : ℕ → List ℕ → List ℕ → List ℕ → List ℕ → Type 0
TakesString size front rest before after =
    (size ≤ length front) × (rest ≡ drop size front) × ((one : List ℕ) × (after ≡ before ++ one) × IsOne byte_array one (bytes (take size front)))
