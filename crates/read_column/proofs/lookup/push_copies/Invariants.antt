use Rattle.std.proofs.Common.{replicate}
use Rattle.read_column.proofs.Gathering.{SoFar}
use Rattle.read_column.proofs.lookup.push_copies.Given as goal

abbrev pub invariant-loop-left : goal.invariant-loop-left
invariant-loop-left l = record {
  so_far : SoFar l.entries (replicate l.count l.index) l.fn.values.items (replicate l.left l.index) l.values.items;
}

abbrev pub decreases-loop-left : goal.decreases-loop-left
decreases-loop-left l = l.left
