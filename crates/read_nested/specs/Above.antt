-- The parts of a way above one of its parts.
use Rattle.std.specs.Prelude.{ℕ, Bool, List, [], ◌∷◌}
use Rattle.shredding.specs.Shape.{Way, in_list, in_struct}
use Rattle.pq_headline.specs.Columns.{ArrowColumn, beneath_list, beneath_struct}

-- a list, whether it is nullable and how many items its offsets count, or a struct, whether it is nullable and the place of the child
pub data Above : Type 0 where
  above_list : Bool → ℕ → Above
  above_struct : Bool → ℕ → Above

abbrev pub way_beneath : List Above → Way → Way
way_beneath [] w = w
way_beneath (above_list n limit ∷ parts) w = in_list n (way_beneath parts w)
way_beneath (above_struct n i ∷ parts) w = in_struct n i (way_beneath parts w)

-- a column as it is seen from the field above these parts
abbrev pub raised : List Above → ArrowColumn → ArrowColumn
raised [] c = c
raised (above_list n limit ∷ parts) c = beneath_list n limit (raised parts c)
raised (above_struct n i ∷ parts) c = beneath_struct n i (raised parts c)
