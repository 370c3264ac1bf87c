-- The texts of bounds as they are written: each value has one (Parquet format, parquet.thrift: Statistics; Encodings, "Plain").
use Rattle.std.specs.Prelude.{◌≡◌, ℕ, List, [], ◌∷◌, true, false, All, Contains, Option, Some, None}
use Rattle.std.specs.Int.{w32, w64, cast_unsigned, to_le_bytes}
use Rattle.shredding.specs.Shape.{LeafType, decimal}
use Rattle.shredding.specs.Slot.{Value, truth, number, bytes}
use Rattle.pq_tree.specs.Physical.{Physical, boolean, int32, int64, byte_array, fixed}
use Rattle.pq_files.specs.Once.{HasBytes}
use Rattle.pq_files.specs.Statistics.{Bounds, Statistics, IsUpTo}
use Rattle.pq_files.specs.Stored.{IsStored}

-- the text of a stored value: plain, without a length, and a truth value as a byte
abbrev pub bound_text : Physical → Value → List ℕ
bound_text boolean (truth true) = 1 ∷ []
bound_text boolean (truth false) = 0 ∷ []
bound_text int32 (number z) = to_le_bytes w32 (cast_unsigned w32 z)
bound_text int64 (number z) = to_le_bytes w64 (cast_unsigned w64 z)
bound_text byte_array (bytes s) = s
bound_text (fixed n) (bytes s) = s
bound_text _ _ = []

-- where the type is that of decimals, a stored byte string has bytes: so each value has one stored value
abbrev pub HasOwnBytes : LeafType → Value → Type 0
HasOwnBytes t stored = t ≡ decimal → HasBytes stored

-- the text of what is stored for a value, which for a decimal are bytes
pub record IsSpelled (t : LeafType) (p : Physical) (s : List ℕ) (v : Value) : Type 0 where
  pub stored : Value
  pub is_stored : IsStored t p v stored
  pub has_bytes : HasOwnBytes t stored
  pub is : s ≡ bound_text p stored

-- the texts of the least and of the greatest of the values
pub record AreSpelled (t : LeafType) (p : Physical) (b : Bounds) (vs : List Value) : Type 0 where
  pub low : Value
  pub has_low : Contains vs low
  pub is_low : All (λ v. IsUpTo low v) vs
  pub low_text : IsSpelled t p b.least low
  pub high : Value
  pub has_high : Contains vs high
  pub is_high : All (λ v. IsUpTo v high) vs
  pub high_text : IsSpelled t p b.greatest high

-- where there are bounds
abbrev pub BoundsAreSpelled : LeafType → Physical → List Value → Option Bounds → Type 0
BoundsAreSpelled t p vs None = Unit {0}
BoundsAreSpelled t p vs (Some b) = AreSpelled t p b vs

-- The bounds of statistics, where there are some, have these texts. So a column of values has one statistics only.
abbrev pub IsExact : LeafType → Physical → List Value → Option Statistics → Type 0
IsExact t p vs None = Unit {0}
IsExact t p vs (Some st) = BoundsAreSpelled t p vs st.bounds
