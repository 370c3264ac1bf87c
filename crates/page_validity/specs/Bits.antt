-- The bits of a page that are left.
use Rattle.std.specs.Prelude.{ℕ, ◌+◌, ◌<◌, ◌^◌, List, ◌++◌}
use Rattle.pq_bitmaps.specs.Called.{given_bits}
use Rattle.pq_bitmaps.specs.Selected.{Step}
use Rattle.pq_bitmaps.specs.Stretch.{IsStretch, size_of, stretch_bits}
use Rattle.page_validity.specs.Validity.{level_steps}
use Rattle.page_validity.specs.declared.bits.Bits.{Bits}

abbrev pub steps_in : Bits → List Step
steps_in b = level_steps (given_bits (stretch_bits b.rest) ++ b.runs.bits)

abbrev pub left_in : Bits → ℕ
left_in b = size_of b.rest + b.runs.left

pub record IsBits (b : Bits) : Type 0 where
  pub rest : IsStretch b.rest
  pub counted : left_in b < 2 ^ 64
