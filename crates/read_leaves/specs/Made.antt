-- What is made of what a column's reader gives.
use Rattle.std.specs.Prelude.{◌≡◌, Option, Some, None, Result, Ok, Err, List}
use Rattle.columns_array.specs.Boxed.{boxed}
use Rattle.columns_base.specs.declared.error.Error.{Error}
use Rattle.columns_base.specs.declared.error.Error.TheVariants.{Memory}
use Rattle.columns_core.specs.Tree.{TypeTree}
use Rattle.read_laws.specs.State.{Kept}
use Rattle.read_pieces.specs.declared.piece.ColumnPiece.{ColumnPiece}
use Rattle.read_types.specs.Arrays.{IsLeafArray}
use Rattle.shredding.specs.Slot.{Slot}

-- The piece has the state, and the array of the decoded slots; or there is no memory for it. None and errors are handed on.
abbrev pub MakesPiece : {V : Type 0} → (V → List Slot) → TypeTree → Option (Result (List Kept × V) Error) → Option (Result ColumnPiece Error) → Type 0
MakesPiece slots t None None = Unit {0}
MakesPiece slots t (Some (Ok v)) (Some (Ok p)) = (p.nested ≡ v.0) × IsLeafArray t (slots v.1) (boxed p.values)
MakesPiece slots t (Some (Ok v)) (Some (Err e)) = e ≡ Memory
MakesPiece slots t (Some (Err f)) (Some (Err e)) = e ≡ f
MakesPiece slots t item result = ⊥
