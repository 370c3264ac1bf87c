use Rattle.std.proofs.Common.{ℕ, List}
use Rattle.assembly.specs.Lanes.{Lane, Tables, AreReading, AreBehind, AreEnded}
use Rattle.assembly.proofs.pieces.expect_ends.Given as goal

abbrev pub invariant-loop-column : goal.invariant-loop-column
invariant-loop-column g l = (rows : ℕ) (xs : List Lane) (tables : Tables) → AreReading 0 xs l.fn.columns.items tables → AreBehind 0 rows rows xs tables → AreEnded 0 l.column-index xs l.column-items tables
