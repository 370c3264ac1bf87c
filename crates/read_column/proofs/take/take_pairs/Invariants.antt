use Rattle.std.proofs.Common.{List, ◌+◌, ◌++◌, ℕ}
use Rattle.shredding.specs.Shape.{Way}
use Rattle.shredding.specs.Shred.{Triple}
use Rattle.read_column.specs.Taken.{joined, BeginsPair, IsQueued, TakesPairs}
use Rattle.read_column.proofs.take.take_pairs.Given as goal

abbrev pub invariant-pieces : goal.invariant-pieces
invariant-pieces g l =
    ((w : Way) (before : ℕ) (whole : List (List Triple)) (last : List Triple) → IsQueued w before whole last l.initial.queue → BeginsPair l.initial.page →
    TakesPairs l.initial.queue.chunk_size w before (joined whole ++ last) l.queue l.initial.page l.page (g.L.LeafReader.stored l.leaf l.initial.bytes.values.now l.initial.bytes.bit) (g.L.LeafReader.stored l.leaf l.bytes.values.now l.bytes.bit))
    × g.L.LeafReader.suits l.leaf l.queue.width

abbrev pub decreases-pieces : goal.decreases-pieces
decreases-pieces g l = l.queue.rows + l.queue.left
