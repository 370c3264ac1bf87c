-- Which values of a page are there (Parquet format, "Data Pages", definition levels).
use Rattle.std.specs.Prelude.{◌≡◌, ℕ, ◌≤◌, pos, List, [], ◌∷◌, map, Bool, true, false, Option, Some, None, Result, Ok, Err}
use Rattle.columns_base.specs.declared.error.Error.{Error}
use Rattle.columns_base.specs.declared.error.Error.TheVariants.{OutOfSpec}
use Rattle.columns_base.specs.declared.error.S.TheVariants.{S4}
use Rattle.pq_bitmaps.specs.Called.{Bit}
use Rattle.pq_bitmaps.specs.Selected.{Step, fails, gives, passes, given_in}
use Rattle.pq_bitmaps.specs.declared.part.FilteredHybridEncoded.{FilteredHybridEncoded}
use Rattle.pq_bitmaps.specs.declared.part.Interval.{Interval}
use Rattle.pq_files.specs.Page.{Sections}
use Rattle.pq_pages.specs.DataPages.{DataPageValue, stated_values}
use Rattle.pq_pages.specs.Outcomes.{levels_in}
use Rattle.pq_pages.specs.Split.{Splits}

-- levels that are cut or past their maximum
abbrev pub level_fault : Error
level_fault = OutOfSpec S4

-- each bit is given: a value is there exactly where it is set
abbrev pub level_step : Bit → Step
level_step (Ok b) = gives b
level_step (Err e) = fails level_fault

abbrev pub level_steps : List Bit → List Step
level_steps bits = map level_step bits

-- the same of what is selected
abbrev pub as_level : Step → Step
as_level (gives b) = gives b
as_level (passes b) = passes b
as_level (fails e) = fails level_fault

-- The page has so many values, and its body's sections are these.
pub record IsSplitInto (page : DataPageValue) (count : ℕ) (s : Sections) : Type 0 where
  pub counts : pos count ≡ stated_values page.header
  pub splits : Splits page.header (levels_in page.descriptor) page.buffer s

-- all of so many values, as one interval
abbrev pub all_rows : ℕ → List Interval
all_rows n = record { start = 0; length = n } ∷ []

-- the rows that are selected of so many; where none are named, all are
abbrev pub rows_among : ℕ → Option (List Interval) → List Interval
rows_among n None = all_rows n
rows_among n (Some rows) = rows

-- a part that gives bits gives no more than this
abbrev pub IsWithin : ℕ → Option (Result FilteredHybridEncoded Error) → Type 0
IsWithin limit (Some (Ok part)) = given_in part ≤ limit
IsWithin limit r = Unit {0}

-- ---- values beside bits

-- For each bit one item: where it is set the next value, if there is one, and else none.
abbrev pub Pairs : {V I A : Type 0} → (V → Option Bool → V → Type 0) → (I → Option A → I → Type 0) → V × I → Option Bool → Option (Option A) → V × I → Type 0
Pairs bits values s None r t = (r ≡ None) × (t.1 ≡ s.1)
Pairs bits values s (Some false) r t = (r ≡ Some None) × (t.1 ≡ s.1)
Pairs {A = A} bits values s (Some true) r t = (value : Option A) × values s.1 value t.1 × (r ≡ Some value)

abbrev pub GivesPair : {V I A : Type 0} → (V → Option Bool → V → Type 0) → (I → Option A → I → Type 0) → V × I → Option (Option A) → V × I → Type 0
GivesPair bits values s r t = (bit : Option Bool) × bits s.0 bit t.0 × Pairs bits values s bit r t
