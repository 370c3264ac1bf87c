-- Repetition levels of lists above a path without lists.
use Rattle.std.specs.Prelude.{◌≡◌, ℕ, zero, suc, ◌+◌, ◌-◌, ◌<◌, ◌≤◌, List, [], ◌∷◌, ◌++◌, replicate}
use Rattle.std.specs.Int.{bit_at}
use Rattle.pq_runs.specs.Words.{bit_numbers}
use Rattle.level_sections.specs.declared.lists.Starts.{Starts}

-- The repetition levels of a list of so many pairs: the first pair's, and of each further one what the list adds to those above.
abbrev pub list_levels : ℕ → ℕ → ℕ → List ℕ
list_levels first others pairs = first ∷ replicate (pairs - 1) (others + 1)

-- The levels of so many lists by the numbers of their pairs: the first pair of the first list has repetition first, that of the others
-- has others, and each further pair of a list has one more.
unfoldable pub reps_from : (ℕ → ℕ) → ℕ → ℕ → ℕ → ℕ → List ℕ
reps_from size first others place zero = []
reps_from size first others place (suc count) = list_levels first others (size place) ++ reps_from size others others (place + 1) count

-- the levels that wait beneath so many lists
abbrev pub pending : ℕ → Starts → List ℕ
pending depth starts = bit_numbers depth starts.word 0 starts.count

-- at most 64 levels wait, and all bits behind them are set
pub record IsOpen (starts : Starts) : Type 0 where
  pub few : starts.count ≤ 64
  pub ones : (i : ℕ) → starts.count ≤ i → i < 64 → bit_at starts.word i ≡ 1
