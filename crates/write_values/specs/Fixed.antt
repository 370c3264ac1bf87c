-- Byte strings of one length, as an array has them (Arrow columnar format, "Fixed-Size Primitive Layout").
use Rattle.std.specs.Prelude.{ℕ, List}
use Rattle.shredding.specs.Slot.{Value}
use Rattle.columns_core.specs.Shapes.{base}
use Rattle.columns_core.specs.Tree.{TypeTree}
use Rattle.columns_leaf.specs.Fixed.{fixed_width, fixed_count}
use Rattle.columns_slots.specs.Bytes.{chunks_values}

-- the length of each string of an array of the type
abbrev pub width_in : TypeTree → ℕ
width_in t = fixed_width (base t)

-- the strings of an array of the type with these bytes
abbrev pub strings_in : TypeTree → List ℕ → List Value
strings_in t bs = chunks_values (width_in t) (fixed_count (base t) bs) bs
