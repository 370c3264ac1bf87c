-- What is left to read.
use Rattle.std.specs.Prelude.{◌≡◌, ◌⊎◌, ℕ, ◌+◌, ◌-◌, ◌*◌, ◌/◌, ◌^◌, ◌<◌, ◌≤◌, List, ◌++◌, length, replicate, slice_index}
use Rattle.pq_runs.specs.declared.state.State.{State}
use Rattle.pq_numbers.specs.Bits.{digits_of}
use Rattle.pq_numbers.specs.Texts.{number_of}
use Rattle.pq_runs.specs.Hybrid.{Item, given, runs_items}

-- the copies, the packed numbers and the runs behind them
abbrev pub items_of : ℕ → ℕ → ℕ → ℕ → ℕ → ℕ → List ℕ → List Item
items_of w left copies number standing bits bytes =
    given (replicate copies number) ++ (given (digits_of (2 ^ w) standing bits) ++ runs_items (length bytes) w (left - (copies + standing)) bytes)

unfoldable pub items : State → List Item
items s = items_of s.width s.left s.copies s.number s.standing (number_of s.packed.now / 2 ^ s.shift) s.bytes.now

pub record IsState (s : State) : Type 0 where
  pub fits : s.width ≤ 32
  pub bits : (0 < s.width) ⊎ (s.left ≡ s.copies)
  pub within : s.copies + s.standing ≤ s.left
  pub small : s.shift < 8
  pub enough : s.shift + s.width * s.standing ≤ 8 * length s.packed.now
  pub are : (k : ℕ) → slice_index s.packed.now k < 256
