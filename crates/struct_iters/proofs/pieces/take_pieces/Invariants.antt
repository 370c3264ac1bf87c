use Rattle.std.proofs.Common.{◌≡◌, List, Option, [], length, take}
use Rattle.shredding.specs.Shred.{Triple}
use Rattle.struct_iters.specs.Progress.{Progress, AreAt, AreGone, AreTaken}
use Rattle.struct_iters.proofs.pieces.take_pieces.Given as goal

abbrev pub invariant-loop-column : goal.invariant-loop-column
invariant-loop-column g l = record {
  taken : (xs : List Progress) → AreAt xs l.fn.columns.items → (took : List (Option (List Triple))) × (length took ≡ l.column-index) × AreTaken took xs l.column-items l.pieces.items;
  ended : AreGone l.fn.columns.items → (l.pieces.items ≡ []) × AreGone l.column-items;
  gone : l.pieces.items ≡ [] → AreGone (take l.column-index l.column-items);
}
