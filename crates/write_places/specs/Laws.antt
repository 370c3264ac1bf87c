-- The laws of places.
use Rattle.std.specs.Prelude.{◌≡◌, ℕ, List, map, All}
use Rattle.shredding.specs.Slot.{Value}
use Rattle.levels.specs.declared.nested.Nested.{Nested}
use Rattle.levels.specs.Nested.{parts_of, nested_column}
use Rattle.shredding.specs.Shape.{LeafType}
use Rattle.pq_tree.specs.Physical.{Physical}
use Rattle.pq_files.specs.Page.{values_in}
use Rattle.pq_files.specs.Stored.{IsStored, AreStored}
use Rattle.write_places.specs.Places.{path_places}

-- The present values of a path's column are those at the places that it reaches, in order.
abbrev pub ValuesAreAtPlaces : Type 0
ValuesAreAtPlaces = (values : ℕ → Value) (nested : List Nested) → values_in (nested_column values nested) ≡ map values (path_places (parts_of nested))

-- Where at each place that a path reaches one value is stored for the other, the column of the ones is stored as the column of the others.
abbrev pub ColumnsAreStored : Type 0
ColumnsAreStored =
    (t : LeafType) (p : Physical) (values stored : ℕ → Value) (nested : List Nested) → All (λ i. IsStored t p (values i) (stored i)) (path_places (parts_of nested)) → AreStored t p (nested_column values nested) (nested_column stored nested)
