-- The level pairs of values without levels.
use Rattle.std.specs.Prelude.{ℕ, Ok, List, replicate}
use Rattle.read_walk.specs.Pairs.{Item}

-- the pairs of so many values of a column without levels
abbrev pub entry_pairs : ℕ → List Item
entry_pairs n = replicate n (Ok (0, 0))
