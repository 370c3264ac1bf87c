-- Levels in a section of a page (Parquet format, "Nested Encoding" and "Data Pages").
use Rattle.std.specs.Prelude.{◌≡◌, ℕ, zero, suc, ◌≤◌, List, [], ◌++◌, length, All}
use Rattle.pq_runs.specs.Runs.{Runs}
use Rattle.pq_numbers.specs.Bits.{IsWidth}
use Rattle.pq_numbers.specs.Texts.{number_of, Begins}

-- The section begins with runs of the levels, none of which passes the maximum. Where that is 0 the section is not looked at.
pub record HasLevels (max : ℕ) (section levels : List ℕ) : Type 0 where
  pub width : ℕ
  pub is_width : IsWidth max width
  pub runs : Begins (Runs width) section levels
  pub within : All (λ level. level ≤ max) levels

-- the section at the front, behind four bytes with its length; there is none where the maximum is 0
abbrev pub IsBehindLength : ℕ → List ℕ → List ℕ → List ℕ → Type 0
IsBehindLength zero bytes section rest = (section ≡ []) × (bytes ≡ rest)
IsBehindLength (suc max) bytes section rest = (head : List ℕ) × (length head ≡ 4) × (number_of head ≡ length section) × (bytes ≡ head ++ (section ++ rest))
