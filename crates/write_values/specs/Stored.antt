-- What a column stores for the values of a leaf array (Parquet format, LogicalTypes and "Types").
use Rattle.std.specs.Prelude.{ℕ, pos}
use Rattle.std.specs.Int.{w32, w64, cast_signed}
use Rattle.shredding.specs.Shape.{LeafType, unsigned, decimal}
use Rattle.shredding.specs.Slot.{Value, number}
use Rattle.columns_core.specs.Shapes.{leaf_type}
use Rattle.columns_slots.specs.Tree.{ArrayTree}
use Rattle.columns_slots.specs.Slots.{type_of}
use Rattle.nested_paths.specs.LeafNulls.{value_at}
use Rattle.pq_tree.specs.Physical.{Physical, int32, int64, fixed}
use Rattle.write_values.specs.Decimals.{stored_decimal}

-- The stored value of a value: a number without a sign by its bits, a decimal by its low bits, every other value as it is.
abbrev pub stored_value : LeafType → Physical → Value → Value
stored_value (unsigned w) int32 (number (pos n)) = number (cast_signed w32 n)
stored_value (unsigned w) int64 (number (pos n)) = number (cast_signed w64 n)
stored_value decimal int32 (number z) = stored_decimal int32 z
stored_value decimal int64 (number z) = stored_decimal int64 z
stored_value decimal (fixed n) (number z) = stored_decimal (fixed n) z
stored_value t p v = v

-- the stored value at a position of a leaf array, those beneath nulls too
abbrev pub stored_at : ArrayTree → Physical → ℕ → Value
stored_at a p i = stored_value (leaf_type (type_of a)) p (value_at a i)
