-- What is left of runs of bits and of the intervals that select some of them.
use Rattle.std.specs.Prelude.{◌≡◌, ℕ, ◌+◌, ◌-◌, ◌<◌, ◌≤◌, ◌^◌, List, ◌∷◌, ◌++◌}
use Rattle.pq_bitmaps.specs.Called.{Bit, given_bits}
use Rattle.pq_bitmaps.specs.Selected.{AreAscending, Step, gaps_from, selected, steps_by}
use Rattle.pq_bitmaps.specs.Stretch.{IsStretch, size_of, stretch_bits}
use Rattle.pq_bitmaps.specs.declared.filter.Filter.{Filter}
use Rattle.pq_bitmaps.specs.declared.part.Interval.{Interval}

abbrev pub bits_left : Filter → List Bit
bits_left f = given_bits (stretch_bits f.rest) ++ f.runs.bits

-- what is to be said of them
abbrev pub steps_in : Filter → List Step
steps_in f = steps_by (record { skip = f.skip; count = f.count } ∷ gaps_from f.place f.intervals.items) (bits_left f)

-- how many of them are to be given
abbrev pub left_in : Filter → ℕ
left_in f = f.count + selected f.intervals.items

-- how many are called for
abbrev pub room : Filter → ℕ
room f = size_of f.rest + f.runs.left

-- the intervals lie within what is called for
pub record IsFilter (f : Filter) : Type 0 where
  pub rest : IsStretch f.rest
  pub fits : f.skip + f.count ≤ room f
  pub ascend : AreAscending f.place (f.place + (room f - (f.skip + f.count))) f.intervals.items
  pub bounded : f.place + (room f - (f.skip + f.count)) < 2 ^ 64
  pub counted : room f < 2 ^ 64

-- the same where this interval is the next one
pub record IsBefore (f : Filter) (i : Interval) : Type 0 where
  pub rest : IsStretch f.rest
  pub none : f.skip + f.count ≡ 0
  pub ascend : AreAscending f.place (f.place + room f) (i ∷ f.intervals.items)
  pub bounded : f.place + room f < 2 ^ 64
  pub counted : room f < 2 ^ 64
