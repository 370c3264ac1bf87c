-- The laws of statistics.
use Rattle.std.specs.Prelude.{◌≡◌, List, Bool, Option, All}
use Rattle.shredding.specs.Shape.{LeafType}
use Rattle.shredding.specs.Shred.{Triple}
use Rattle.shredding.specs.Slot.{Value}
use Rattle.pq_tree.specs.Physical.{Physical}
use Rattle.pq_files.specs.Page.{values_in}
use Rattle.pq_files.specs.Statistics.{Statistics, HasStatistics}
use Rattle.pq_files.specs.Stored.{AreStored, IsStored}
use Rattle.page_statistics.specs.Spelled.{HasOwnBytes, IsExact}

-- Each column whose values are stored, decimals as bytes, has statistics: those that are not empty have a least and a greatest value, whose texts there are.
abbrev pub StatisticsExist : Type 0
StatisticsExist =
    (wanted : Bool) (t : LeafType) (p : Physical) (column stored : List Triple) → AreStored t p column stored → All (HasOwnBytes t) (values_in stored)
    → (out : Option Statistics) × HasStatistics wanted t p out column (values_in column) × IsExact t p (values_in column) out

-- It has no other ones, where no value is stored in two ways.
abbrev pub StatisticsAreUnique : Type 0
StatisticsAreUnique =
    (wanted : Bool) (t : LeafType) (p : Physical) (column : List Triple) (a b : Option Statistics) → ((v s r : Value) → HasOwnBytes t s → HasOwnBytes t r → IsStored t p v s → IsStored t p v r → s ≡ r) → HasStatistics wanted t p a column (values_in column) → IsExact t p (values_in column) a
    → HasStatistics wanted t p b column (values_in column) → IsExact t p (values_in column) b → a ≡ b
