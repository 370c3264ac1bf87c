-- The statistics of a column whose nulls a file counts (Parquet format, parquet.thrift: Statistics).
use Rattle.std.specs.Prelude.{◌≡◌, ℕ, pos, List, [], ◌∷◌, Option, Some, None, All, Contains, count_by, is_none}
use Rattle.shredding.specs.Shape.{LeafType}
use Rattle.shredding.specs.Shred.{Triple}
use Rattle.shredding.specs.Slot.{Value}
use Rattle.pq_files.specs.Page.{values_in}
use Rattle.pq_files.specs.Statistics.{IsUpTo}
use Rattle.pq_tree.specs.Footers.{ChunkStatistics}
use Rattle.pq_tree.specs.Physical.{Physical}
use Rattle.page_statistics.specs.Spelled.{IsSpelled}

-- one of the values, of which this is a text, and which none of theirs is below
pub record IsLeastOf (t : LeafType) (p : Physical) (vs : List Value) (s : List ℕ) : Type 0 where
  pub low : Value
  pub has : Contains vs low
  pub is : All (λ v. IsUpTo low v) vs
  pub spelled : IsSpelled t p s low

-- the same, which none of theirs is above
pub record IsGreatestOf (t : LeafType) (p : Physical) (vs : List Value) (s : List ℕ) : Type 0 where
  pub high : Value
  pub has : Contains vs high
  pub is : All (λ v. IsUpTo v high) vs
  pub spelled : IsSpelled t p s high

-- the text of the least value, exactly where there is a value
abbrev pub IsLeastText : LeafType → Physical → List Value → Option (List ℕ) → Type 0
IsLeastText t p [] None = Unit {0}
IsLeastText t p (v ∷ vs) (Some s) = IsLeastOf t p (v ∷ vs) s
IsLeastText t p _ _ = ⊥

-- the text of the greatest value, exactly where there is a value
abbrev pub IsGreatestText : LeafType → Physical → List Value → Option (List ℕ) → Type 0
IsGreatestText t p [] None = Unit {0}
IsGreatestText t p (v ∷ vs) (Some s) = IsGreatestOf t p (v ∷ vs) s
IsGreatestText t p _ _ = ⊥

-- how many of the triples have no value, and the texts of the least and of the greatest value
pub record AreTold (t : LeafType) (p : Physical) (ts : List Triple) (s : ChunkStatistics) : Type 0 where
  pub nulls : s.null_count ≡ Some (pos (count_by (λ x. is_none x.value) ts))
  pub least : IsLeastText t p (values_in ts) s.min_value
  pub greatest : IsGreatestText t p (values_in ts) s.max_value
