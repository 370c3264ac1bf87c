-- How many pushes to the parts of a state a walk counts.
use Rattle.std.specs.Prelude.{ℕ, ◌+◌, ◌*◌, ◌≤◌, List, length}
use Rattle.read_walk.specs.Pairs.{Item}

-- for each pair that the page no longer has, at most one for each of so many parts
pub record TicksEach (parts : ℕ) (page page' : List Item) (before after : ℕ) : Type 0 where
  pub least : before ≤ after
  pub most : after + parts * length page' ≤ before + parts * length page
