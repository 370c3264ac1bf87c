use Rattle.std.proofs.Common.{◌≡◌, ◌<◌, ℕ, List, length}
use Rattle.shredding.specs.Shred.{Triple}
use Rattle.assembly.specs.Lanes.{Lane, Tables, AreReading, AreBehind, AreStepped}
use Rattle.assembly.proofs.pieces.next_pieces.Given as goal

abbrev pub invariant-loop-column : goal.invariant-loop-column
invariant-loop-column g l = record {
  counted : length l.pieces.items ≡ l.column-index;
  stepped : (before rows : ℕ) (xs : List Lane) (tables : Tables) → AreReading 0 xs l.fn.columns.items tables → AreBehind 0 before rows xs tables → before < rows → (table : List (List Triple)) × AreStepped 0 before xs l.column-items l.pieces.items table tables;
}
