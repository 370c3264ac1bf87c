-- What the bits are, by the grammar of runs.
use Rattle.std.specs.Prelude.{◌≡◌, ◌↔◌, ℕ, List, Bool, map}
use Rattle.pq_runs.specs.Listed.{bit}
use Rattle.pq_runs.specs.Spelled.{Spelled}
use Rattle.pq_bitmaps.specs.Called.{bits_called, given_bits}

-- these bits are called for exactly where the runs at the front spell their numbers
abbrev pub BitsAreSpelled : Type 0
BitsAreSpelled = (n : ℕ) (bytes : List ℕ) (bs : List Bool) → Spelled 1 n bytes (map bit bs) ↔ (bits_called n bytes ≡ given_bits bs)
