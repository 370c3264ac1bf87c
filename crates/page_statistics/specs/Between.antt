-- Values side by side that lie between two.
use Rattle.std.specs.Prelude.{ℕ, ◌<◌, ◌≤◌}
use Rattle.shredding.specs.Slot.{Value}
use Rattle.pq_files.specs.Statistics.{IsUpTo}

-- none from one place on to another is below the value at low or above the one at high
abbrev pub AreAllBetween : (ℕ → Value) → ℕ → ℕ → ℕ → ℕ → Type 0
AreAllBetween value from to low high = (i : ℕ) → from ≤ i → i < to → IsUpTo (value low) (value i) × IsUpTo (value i) (value high)
