use Rattle.std.proofs.Common.{length}
use Rattle.read_column.specs.Entries.{AreInRow}
use Rattle.read_column.proofs.entries.are_even.Given as goal

abbrev pub invariant-loop-rest : goal.invariant-loop-rest
invariant-loop-rest l = record {
  row : AreInRow l.size l.start l.rest → AreInRow l.size 0 l.places;
}

abbrev pub decreases-loop-rest : goal.decreases-loop-rest
decreases-loop-rest l = length l.rest
