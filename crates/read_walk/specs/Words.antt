-- Levels of one bit as words.
use Rattle.std.specs.Prelude.{◌≡◌, ℕ, ◌^◌, ◌<◌, ◌≤◌, List, ◌++◌}
use Rattle.pq_numbers.specs.Bits.{digits_of}
use Rattle.pq_runs.specs.Hybrid.{Item, given}

-- Of the levels that are left the first n were taken, at most so many, and their bits are a word.
pub record TakesBits (room word n : ℕ) (old new : List Item) : Type 0 where
  pub some : 0 < n
  pub few : n ≤ room
  pub below : word < 2 ^ n
  pub first : old ≡ given (digits_of 2 n word) ++ new
