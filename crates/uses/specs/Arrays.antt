-- An array that may be none.
use Rattle.std.specs.Prelude.{List, [], ◌∷◌, Option, Some, None}
use Rattle.columns_array.specs.Boxed.{boxed}
use Rattle.columns_array.specs.declared.arrays.ArrayBox.{ArrayBox}
use Rattle.columns_slots.specs.Tree.{ArrayTree}

abbrev pub arrays_in : Option ArrayBox → List ArrayTree
arrays_in None = []
arrays_in (Some a) = boxed a ∷ []
