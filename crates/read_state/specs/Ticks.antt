-- How many pushes to the parts of a state are counted.
use Rattle.std.specs.Prelude.{ℕ, ◌+◌, ◌≤◌}

-- at most one for each of so many parts
pub record TicksAtMost (parts before after : ℕ) : Type 0 where
  pub least : before ≤ after
  pub most : after ≤ before + parts
