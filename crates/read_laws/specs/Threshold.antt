-- When a pair pushes to the leaf.
use Rattle.std.specs.Prelude.{◌≡◌, ℕ, ◌≤◌, false, nat_le}
use Rattle.shredding.specs.Shape.{Way}
use Rattle.shredding.specs.Shred.{max_repetition}
use Rattle.shredding.specs.Local.{inside}
use Rattle.read_laws.specs.Step.{leaf_pushes}

-- exactly the pairs that define an item of the innermost list, or all where there is no list
abbrev pub LeafThreshold : Type 0
LeafThreshold = (w : Way) (rep level : ℕ) → rep ≤ max_repetition w → leaf_pushes rep level false 0 0 w ≡ nat_le (inside w (max_repetition w)) level
