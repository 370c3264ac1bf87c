-- Arrays of nulls alone (Arrow columnar format, "Null Layout").
use Rattle.std.specs.Prelude.{◌≡◌, List, []}
use Rattle.shredding.specs.Parts.{Part}
use Rattle.columns_slots.specs.Tree.{ArrayTree, null_array, leaf_array, list_array, fixed_list_array, struct_array, dictionary_array}
use Rattle.write_places.specs.Places.{path_places}

-- The masks of a path tell the nulls of an array of nulls alone: the path reaches no place. Of other arrays nothing is
-- asked.
abbrev pub TellsNulls : ArrayTree → List Part → Type 0
TellsNulls (null_array t n) parts = path_places parts ≡ []
TellsNulls (leaf_array t vs m) parts = Unit {0}
TellsNulls (list_array t os c m) parts = Unit {0}
TellsNulls (fixed_list_array t w n c m) parts = Unit {0}
TellsNulls (struct_array t cs m) parts = Unit {0}
TellsNulls (dictionary_array t ks c m) parts = Unit {0}
