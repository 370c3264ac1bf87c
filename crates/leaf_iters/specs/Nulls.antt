-- Arrays of nulls alone, as many nulls as the data pages of a column have values (Arrow columnar format, "Null Layout"; Parquet format, "Data Pages").
use Rattle.std.specs.Prelude.{◌≡◌, ◌⊎◌, ℕ, ◌+◌, ◌-◌, ◌<◌, ◌≤◌, List, [], ◌∷◌, length, min, replicate, Option, Some, None, Result, Ok, Err}
use Rattle.columns_array.specs.Boxed.{boxed}
use Rattle.columns_array.specs.declared.arrays.ArrayBox.{ArrayBox}
use Rattle.columns_base.specs.declared.error.Error.{Error}
use Rattle.columns_base.specs.declared.error.Error.TheVariants.{Memory}
use Rattle.columns_core.specs.Tree.{TypeTree}
use Rattle.pq_files.specs.Chunk.{count_in}
use Rattle.pq_headline.specs.Openings.{piece_size}
use Rattle.pq_pages.specs.Outcomes.{Outcome, gives_page, gives_dictionary, fails}
use Rattle.read_types.specs.Arrays.{IsLeafArray}
use Rattle.shredding.specs.Slot.{null}

-- how many values the data pages in front of the first error have, as their headers state it
abbrev pub values_in : List Outcome → ℕ
values_in [] = 0
values_in (gives_page p levels ∷ os) = count_in p.header + values_in os
values_in (gives_dictionary n body ∷ os) = values_in os
values_in (fails e ∷ os) = 0

abbrev pub first_error : List Outcome → Option Error
first_error [] = None
first_error (gives_page p levels ∷ os) = first_error os
first_error (gives_dictionary n body ∷ os) = first_error os
first_error (fails e ∷ os) = Some e

-- the values of one outcome
abbrev pub values_of : Outcome → ℕ
values_of (gives_page p levels) = count_in p.header
values_of (gives_dictionary n body) = 0
values_of (fails e) = 0

-- Outcomes were taken off the front, each only while fewer values were seen than are wanted; then so many are seen.
abbrev pub TakenWhile : ℕ → ℕ → List Outcome → ℕ → List Outcome → Type 0
TakenWhile wanted before [] now left = (left ≡ []) × (now ≡ before)
TakenWhile wanted before (o ∷ os) now left = ((left ≡ o ∷ os) × (now ≡ before)) ⊎ ((before < wanted) × TakenWhile wanted (before + values_of o) os now left)

-- the type of the arrays, what the source gives, at most how many nulls there are, and how many go into an array
pub record NullOpening : Type 0 where
  pub data_type : TypeTree
  pub outcomes : List Outcome
  pub rows : ℕ
  pub chunk_size : Option ℕ

abbrev pub null_opening : TypeTree → List Outcome → ℕ → Option ℕ → NullOpening
null_opening t outcomes rows chunk_size = record { data_type = t; outcomes = outcomes; rows = rows; chunk_size = chunk_size }

-- all nulls that can be given
abbrev pub nulls_in : NullOpening → ℕ
nulls_in o = min o.rows (values_in o.outcomes)

-- how many nulls the array behind so many would have, if the pages had values without end
abbrev pub wanted_behind : NullOpening → ℕ → ℕ
wanted_behind o before = piece_size o.chunk_size (o.rows - before)

-- what the iterator keeps: of the rows that are left, some have values in pages that it has seen
pub record NullReading : Type 0 where
  pub data_type : TypeTree
  pub outcomes : List Outcome
  pub chunk_size : Option ℕ
  pub left : ℕ
  pub unseen : ℕ

-- So many nulls were given, and the others are still to come: those that pages were seen to have, and those of the outcomes that are left.
pub record IsGivingNulls (o : NullOpening) (before : ℕ) (it : NullReading) : Type 0 where
  pub typed : it.data_type ≡ o.data_type
  pub size : it.chunk_size ≡ o.chunk_size
  pub rows : before + it.left ≡ o.rows
  pub seen : before + ((it.left - it.unseen) + min it.unseen (values_in it.outcomes)) ≡ nulls_in o
  pub error : first_error it.outcomes ≡ first_error o.outcomes

-- An array of so many nulls comes behind so many: as many as go into one, or as are left. Fewer only where no error follows.
pub record IsNullPiece (o : NullOpening) (before n : ℕ) : Type 0 where
  pub some : 0 < n
  pub count : n ≡ piece_size o.chunk_size (nulls_in o - before)
  pub whole : (n ≡ wanted_behind o before) ⊎ (first_error o.outcomes ≡ None)

-- What a call gives where so many nulls were given: an array of the next ones; nothing, and those are all; or the first error of the source, and the
-- pages in front of it have too few values for the next array. Want of memory is free.
abbrev pub GivesNulls : NullOpening → ℕ → Option (Result ArrayBox Error) → NullReading → Type 0
GivesNulls o before None now = (nulls_in o ≡ before) × ((before ≡ o.rows) ⊎ (first_error o.outcomes ≡ None))
GivesNulls o before (Some (Ok a)) now = (n : ℕ) × IsNullPiece o before n × IsLeafArray o.data_type (replicate n null) (boxed a) × IsGivingNulls o (before + n) now
GivesNulls o before (Some (Err e)) now = (e ≡ Memory) ⊎ ((first_error o.outcomes ≡ Some e) × (nulls_in o < before + wanted_behind o before))

-- no row is left behind the end and behind an error
abbrev pub HasNoneLeft : Option (Result ArrayBox Error) → NullReading → Type 0
HasNoneLeft None now = now.left ≡ 0
HasNoneLeft (Some (Err e)) now = now.left ≡ 0
HasNoneLeft (Some (Ok a)) now = Unit {0}

-- ---- steps

-- one outcome was taken, whose values are so many
pub record TakesValues (before after : List Outcome) (n : ℕ) : Type 0 where
  pub values : values_in before ≡ n + values_in after
  pub error : first_error before ≡ first_error after
  pub less : length after < length before
  pub outcome : Outcome
  pub first : before ≡ outcome ∷ after
  pub count : values_of outcome ≡ n

-- A call took outcomes only while fewer rows were there than go into an array: those that were seen before, and the values of the outcomes that it took.
abbrev pub TakesFew : NullReading → NullReading → Type 0
TakesFew old new = (now : ℕ) × TakenWhile (piece_size old.chunk_size old.left) (old.left - old.unseen) old.outcomes now new.outcomes

-- Pages were taken, so that of the rows that are left so many are still unseen.
pub record IsSeen (left unseen : ℕ) (before after : List Outcome) (now : ℕ) : Type 0 where
  pub few : now ≤ left
  pub seen : (left - now) + min now (values_in after) ≡ (left - unseen) + min unseen (values_in before)
  pub error : first_error after ≡ first_error before
