-- The arrays of a flat column, of what its pieces are.
use Rattle.std.proofs.Common.{◌≡◌, true, Option, Some, None, List, subst}
use Rattle.std.specs.Prelude.{Result, Ok, Err}
use Rattle.columns_array.specs.Boxed.{boxed}
use Rattle.columns_array.specs.declared.arrays.ArrayBox.{ArrayBox}
use Rattle.columns_base.specs.declared.error.Error.{Error}
use Rattle.columns_core.specs.Shapes.{type_shape}
use Rattle.columns_core.specs.Tree.{TypeTree}
use Rattle.columns_slots.specs.Loose.{loose}
use Rattle.columns_slots.specs.Slots.{slots}
use Rattle.pq_headline.specs.Columns.{is_alone}
use Rattle.read_laws.specs.State.{Kept}
use Rattle.read_leaves.specs.Leaf.{LeafReading}
use Rattle.read_pieces.specs.Columns.{ColumnOpening}
use Rattle.shredding.specs.Shape.{IsOf}
use Rattle.shredding.specs.Shred.{Triple}
use Rattle.leaf_iters.specs.Iters.{GivesArray, GivesItem, IsAtEnd, LeavesArray}
use Rattle.leaf_iters.proofs.Flat.{flat_column}
use Rattle.std.specs.Prelude.{All}

pub gives : (o : ColumnOpening) (t : TypeTree) (pieces : List (List Triple)) (item : Option (Result (List Kept × ArrayBox) Error)) (result : Option (Result ArrayBox Error)) (now : Option LeafReading) → is_alone o.column.way ≡ true → LeavesArray item result → GivesItem o t pieces item now → GivesArray o t pieces result now
gives o t pieces None result now alone l g = rw l g
gives o t pieces (Some (Err e)) result now alone l g = rw l g
gives o t pieces (Some (Ok item)) result now alone l g =
    let are = subst (λ u. All (IsOf (loose (type_shape true u))) (slots (boxed item.1))) g.2.typed l.1 in
    rw l.0 (g.0, g.1, record { typed = g.2.typed; are = are; column_is = flat_column o.column.way g.0 item.0 (slots (boxed item.1)) alone g.2.is; entries = g.2.entries }, g.3)

pub ends : (item : Option (Result (List Kept × ArrayBox) Error)) (result : Option (Result ArrayBox Error)) (now : Option LeafReading) → LeavesArray item result → IsAtEnd item now → IsAtEnd result now
ends None result now l e = rw l e
ends (Some (Err x)) result now l e = rw l e
ends (Some (Ok item)) result now l e = rw l.0 tt

pub none : (item : Option (Result (List Kept × ArrayBox) Error)) (result : Option (Result ArrayBox Error)) → LeavesArray item result → item ≡ None → result ≡ None
none item result l e = rw e at l
