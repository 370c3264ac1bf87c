-- The list of so many numbers that the bytes begin with.
use Rattle.std.specs.Prelude.{◌≡◌, ◌↔◌, ℕ, List, length}
use Rattle.pq_numbers.specs.Texts.{Begins}
use Rattle.pq_runs.specs.Hybrid.{given, hybrid}
use Rattle.pq_runs.specs.Runs.{Runs}

-- the list of so many numbers at the front
pub record Spelled (w n : ℕ) (bytes xs : List ℕ) : Type 0 where
  pub count : length xs ≡ n
  pub begins : Begins (Runs w) bytes xs

-- what the runs at the front spell is what is read, and the other way round
abbrev pub RunsAreRead : Type 0
RunsAreRead = (w n : ℕ) (bytes xs : List ℕ) → Spelled w n bytes xs ↔ (hybrid w n bytes ≡ given xs)

-- runs spell at most one list of a length
abbrev pub RunsAreUnique : Type 0
RunsAreUnique = (w : ℕ) (bytes xs ys : List ℕ) → Begins (Runs w) bytes xs → Begins (Runs w) bytes ys → length xs ≡ length ys → xs ≡ ys
