-- The places of a least and of a greatest value (Parquet format, parquet.thrift: Statistics, ColumnOrder).
use Rattle.std.specs.Prelude.{◌≡◌, ℕ, ◌-◌, ◌^◌, ◌<◌, List, [], ◌∷◌, length, min, All, Contains, Option, Some, None}
use Rattle.shredding.specs.Slot.{Value}
use Rattle.pq_files.specs.Statistics.{IsUpTo}
use Rattle.page_statistics.specs.Between.{AreAllBetween}
use Rattle.page_statistics.specs.declared.seen.Extremes.{Extremes}
use Rattle.page_statistics.specs.declared.seen.Seen.{Seen}

-- one of the places, whose value none of theirs is below
pub record IsLeastAt (value : ℕ → Value) (places : List ℕ) (low : ℕ) : Type 0 where
  pub among : Contains places low
  pub least : All (λ i. IsUpTo (value low) (value i)) places

-- one of the places, whose value none of theirs is above
pub record IsGreatestAt (value : ℕ → Value) (places : List ℕ) (high : ℕ) : Type 0 where
  pub among : Contains places high
  pub greatest : All (λ i. IsUpTo (value i) (value high)) places

-- both, exactly where there is a place
abbrev pub AreExtremes : (ℕ → Value) → List ℕ → Option Extremes → Type 0
AreExtremes value [] None = Unit {0}
AreExtremes value (i ∷ is) (Some e) = IsLeastAt value (i ∷ is) e.least × IsGreatestAt value (i ∷ is) e.greatest
AreExtremes value _ _ = ⊥

-- among so many places
abbrev pub AreWithin : ℕ → Option Extremes → Type 0
AreWithin count None = Unit {0}
AreWithin count (Some e) = (e.least < count) × (e.greatest < count)

-- none from one place on to another is below the least or above the greatest
abbrev pub AreBetween : (ℕ → Value) → Option Extremes → ℕ → ℕ → Type 0
AreBetween value None from to = ⊥
AreBetween value (Some e) from to = AreAllBetween value from to e.least e.greatest

-- The number of these places, up to the largest number, and the extremes of theirs, each counted from nothing on.
pub record Sees (value : ℕ → Value) (places : List ℕ) (old new : Seen) : Type 0 where
  pub values : old.values ≡ 0 → new.values ≡ min (length places) (2 ^ 64 - 1)
  pub extremes : old.extremes ≡ None → AreExtremes value places new.extremes

-- of no places
pub sees-none : (value : ℕ → Value) (s : Seen) → Sees value [] s s
sees-none value s = record { values = λ e. e; extremes = λ e. rw e tt }
