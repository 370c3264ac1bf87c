-- Bits of which intervals of rows select some (Parquet format, "Page Index": rows that a reader wants of a page).
use Rattle.std.specs.Prelude.{◌≡◌, ℕ, ◌+◌, ◌-◌, ◌*◌, ◌<◌, ◌^◌, ◌≤◌, List, [], ◌∷◌, ◌++◌, length, map, replicate, take, drop, Bool, Option, Some, None, Result, Ok, Err}
use Rattle.columns_base.specs.declared.error.Error.{Error}
use Rattle.columns_core.specs.Bits.{bits_from}
use Rattle.pq_runs.specs.Listed.{bit}
use Rattle.pq_bitmaps.specs.Called.{Bit}
use Rattle.pq_bitmaps.specs.declared.part.Interval.{Interval}
use Rattle.pq_bitmaps.specs.declared.part.FilteredHybridEncoded.{FilteredHybridEncoded}
use Rattle.pq_bitmaps.specs.declared.part.FilteredHybridEncoded.TheVariants.{Bitmap, Repeated, Skipped}

-- what is to be said of a bit: it is given, since it is selected; it is passed over; or an error stands in its place
pub data Step : Type 0 where
  gives : Bool → Step
  passes : Bool → Step
  fails : Error → Step

abbrev pub given_step : Bit → Step
given_step (Ok b) = gives b
given_step (Err e) = fails e

abbrev pub passed_step : Bit → Step
passed_step (Ok b) = passes b
passed_step (Err e) = fails e

-- ---- which bits are selected

-- so many bits are passed over, and so many behind them are given
pub record Gap : Type 0 where
  pub skip : ℕ
  pub count : ℕ

-- from a place on, what lies in front of each interval, and it
abbrev pub gaps_from : ℕ → List Interval → List Gap
gaps_from at [] = []
gaps_from at (i ∷ is) = record { skip = i.start - at; count = i.length } ∷ gaps_from (i.start + i.length) is

-- what is to be said of the bits up to the end of the last interval, and nothing of those behind it
abbrev pub steps_by : List Gap → List Bit → List Step
steps_by [] bits = []
steps_by (g ∷ gs) bits =
    map passed_step (take g.skip bits) ++ (map given_step (take g.count (drop g.skip bits)) ++ steps_by gs (drop g.count (drop g.skip bits)))

abbrev pub steps_of : List Interval → List Bit → List Step
steps_of is bits = steps_by (gaps_from 0 is) bits

-- each interval begins at or behind the end of the one before, the first at or behind this place, and the last ends in front of this end
abbrev pub AreAscending : ℕ → ℕ → List Interval → Type 0
AreAscending at end [] = at ≤ end
AreAscending at end (i ∷ is) = (at ≤ i.start) × AreAscending (i.start + i.length) end is

-- the number of bits that they select
abbrev pub selected : List Interval → ℕ
selected [] = 0
selected (i ∷ is) = i.length + selected is

-- how many selected bits are left, and what is to be said of all that are left
pub record Selection : Type 0 where
  pub left : ℕ
  pub steps : List Step

-- ---- the parts

abbrev pub set_bits : List Bool → ℕ
set_bits [] = 0
set_bits (b ∷ bs) = bit b + set_bits bs

-- The part says this of at least one bit: it gives bits that stand in the bytes, or copies, or it counts the set bits among those that it passes over.
abbrev pub Says : FilteredHybridEncoded → List Step → Type 0
Says (Bitmap values offset n) steps = (0 < n) × (offset + n ≤ 8 * length values.now) × (offset + n < 2 ^ 64) × (steps ≡ map gives (bits_from values.now offset n))
Says (Repeated b n) steps = (0 < n) × (steps ≡ map gives (replicate n b))
Says (Skipped n) steps = (bs : List Bool) × (0 < length bs) × (steps ≡ map passes bs) × (n ≡ set_bits bs)

-- the number of bits that a part gives
abbrev pub given_in : FilteredHybridEncoded → ℕ
given_in (Bitmap values offset n) = n
given_in (Repeated b n) = n
given_in (Skipped n) = 0

-- The next part says what is first to be said. An error is what stands in the place of a bit, and nothing comes behind it.
abbrev pub GivesPart : List Step → Option (Result FilteredHybridEncoded Error) → List Step → Type 0
GivesPart before None after = (before ≡ []) × (after ≡ [])
GivesPart before (Some (Ok part)) after = (said : List Step) × Says part said × (before ≡ said ++ after)
GivesPart before (Some (Err e)) after = (before ≡ fails e ∷ []) × (after ≡ [])

-- the bits that are left to be given
abbrev pub CountsPart : ℕ → Option (Result FilteredHybridEncoded Error) → ℕ → Type 0
CountsPart before None after = (before ≡ 0) × (after ≡ 0)
CountsPart before (Some (Ok part)) after = before ≡ given_in part + after
CountsPart before (Some (Err e)) after = after ≡ 0

abbrev pub GivesSelected : Selection → Option (Result FilteredHybridEncoded Error) → Selection → Type 0
GivesSelected before r after = GivesPart before.steps r after.steps × CountsPart before.left r after.left
