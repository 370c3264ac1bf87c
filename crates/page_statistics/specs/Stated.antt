-- Statistics as they are stated of a column (Parquet format, parquet.thrift: Statistics).
use Rattle.std.specs.Prelude.{◌≡◌, ◌≤◌, ℕ, length, Bool, List, Option, Some, None, option_map, Vec}
use Rattle.std.specs.Global.{Global}
use Rattle.shredding.specs.Shape.{LeafType}
use Rattle.shredding.specs.Shred.{Triple}
use Rattle.shredding.specs.Slot.{Value}
use Rattle.pq_tree.specs.Footers.{ChunkStatistics}
use Rattle.pq_tree.specs.Physical.{Physical}
use Rattle.pq_files.specs.Page.{values_in}
use Rattle.pq_files.specs.Room.{max_count}
use Rattle.pq_files.specs.Statistics.{Statistics, HasStatistics}
use Rattle.pq_files.specs.Written.{statistics_of}
use Rattle.page_statistics.specs.Spelled.{IsExact, IsSpelled}
use Rattle.page_statistics.specs.declared.seen.Extremes.{Extremes}

-- What is stated of a column of these triples: its statistics where they are wanted, and nothing where not. Of more pairs than a file
-- counts nothing is known.
pub record AreStated (wanted : Bool) (t : LeafType) (p : Physical) (ts : List Triple) (stated : Option ChunkStatistics) : Type 0 where
  pub out : Option Statistics
  pub are : length ts ≤ max_count → stated ≡ option_map statistics_of out
  pub has : HasStatistics wanted t p out ts (values_in ts)
  pub exact : IsExact t p (values_in ts) out

-- a text of a value
abbrev pub IsTextOf : LeafType → Physical → Option (Vec ℕ Global) → Value → Type 0
IsTextOf t p None v = ⊥
IsTextOf t p (Some s) v = IsSpelled t p s.items v

-- the texts of the values at the extremes' places, if there are some
abbrev pub AreTextsOf : LeafType → Physical → (ℕ → Value) → Option Extremes → Option (Vec ℕ Global) → Option (Vec ℕ Global) → Type 0
AreTextsOf t p value None least greatest = (least ≡ None) × (greatest ≡ None)
AreTextsOf t p value (Some e) least greatest = IsTextOf t p least (value e.least) × IsTextOf t p greatest (value e.greatest)
