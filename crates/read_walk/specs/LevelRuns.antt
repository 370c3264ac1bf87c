-- What is left to read of a run of levels, and memory filled with the numbers that come next.
use Rattle.std.specs.Prelude.{◌≡◌, ◌⊎◌, ℕ, ◌+◌, ◌*◌, ◌/◌, ◌^◌, ◌<◌, ◌≤◌, Bool, true, false, Err, List, [], ◌∷◌, ◌++◌, length, take, slice_index}
use Rattle.columns_base.specs.declared.error.Error.{Error}
use Rattle.pq_numbers.specs.Texts.{number_of}
use Rattle.pq_runs.specs.Hybrid.{Item, given}
use Rattle.pq_runs.specs.State.{items_of}
use Rattle.read_walk.specs.declared.runs.LevelRuns.{LevelRuns}

-- the numbers that are left, and a fault in the place of the first that is not there
unfoldable pub runs_left : LevelRuns → List Item
runs_left r = items_of r.runs.num_bits r.left r.copies r.number r.standing (number_of r.packed.now / 2 ^ r.shift) r.runs.values.now

-- Of the run that is being read, copies or packed numbers from a bit on are left, and no more than are called for.
pub record IsReading (r : LevelRuns) : Type 0 where
  pub fits : r.runs.num_bits ≤ 32
  pub bits : (0 < r.runs.num_bits) ⊎ (r.left ≡ r.copies)
  pub within : r.copies + r.standing ≤ r.left
  pub small : r.shift < 8
  pub enough : r.shift + r.runs.num_bits * r.standing ≤ 8 * length r.packed.now
  pub are : (k : ℕ) → slice_index r.packed.now k < 256

-- The first n places hold the first numbers. Where fewer than all were filled, no number is left; and where it failed, a fault stood next.
abbrev pub IsFilled : List Item → List ℕ → ℕ → Bool → List Item → Type 0
IsFilled old out n true new = ((e : Error) × (old ≡ given (take n out) ++ Err e ∷ [])) × (new ≡ [])
IsFilled old out n false new = (old ≡ given (take n out) ++ new) × (n < length out → new ≡ [])
