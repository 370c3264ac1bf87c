-- The shape of a field: which slots are its own. A map is a list of its entries, a dictionary goes by its value type, an extension by its inner type.
use Rattle.std.specs.Prelude.{Bool}
use Rattle.shredding.specs.Slot.{Slot}
use Rattle.shredding.specs.Shape.{LeafType, nothing, truths, signed, unsigned, text, binary, fixed_bytes, decimal, months, days, Shape, leaf, list, struct, Shapes, no_shapes, shape, IsOf}
use Rattle.columns_core.specs.declared.types.IntervalUnit.TheVariants.{YearMonth, DayTime}
use Rattle.columns_core.specs.Tree.{TypeTree, t_boolean, t_int8, t_int16, t_int32, t_int64, t_uint8, t_uint16, t_uint32, t_uint64, t_timestamp, t_date32, t_date64, t_time32, t_time64, t_duration, t_interval, t_binary, t_fixed_size_binary, t_large_binary, t_utf8, t_large_utf8, t_list, t_fixed_size_list, t_large_list, t_struct, t_map, t_dictionary, t_decimal, t_extension, FieldTree, field, FieldTrees, no_fields, more_fields}

-- the values of a leaf of the type. Types that no array has (floats, wide decimals, unions) have none
abbrev pub leaf_type : TypeTree → LeafType
leaf_type t_boolean = truths
leaf_type t_int8 = signed 8
leaf_type t_int16 = signed 16
leaf_type t_int32 = signed 32
leaf_type t_int64 = signed 64
leaf_type t_uint8 = unsigned 8
leaf_type t_uint16 = unsigned 16
leaf_type t_uint32 = unsigned 32
leaf_type t_uint64 = unsigned 64
leaf_type (t_timestamp u z) = signed 64
leaf_type t_date32 = signed 32
leaf_type t_date64 = signed 64
leaf_type (t_time32 u) = signed 32
leaf_type (t_time64 u) = signed 64
leaf_type (t_duration u) = signed 64
leaf_type (t_interval YearMonth) = months
leaf_type (t_interval DayTime) = days
leaf_type t_binary = binary
leaf_type (t_fixed_size_binary n) = fixed_bytes n
leaf_type t_large_binary = binary
leaf_type t_utf8 = text
leaf_type t_large_utf8 = text
leaf_type (t_decimal p s) = decimal
leaf_type (t_extension n t m) = leaf_type t
leaf_type (t_dictionary k t s) = leaf_type t
leaf_type _ = nothing

abbrev mutual
  -- the shape of a type, of a field that may be null or not
  pub type_shape : Bool → TypeTree → Shape
  type_shape b (t_list f) = list b (shape_of f)
  type_shape b (t_fixed_size_list f n) = list b (shape_of f)
  type_shape b (t_large_list f) = list b (shape_of f)
  type_shape b (t_map f s) = list b (shape_of f)
  type_shape b (t_struct fs) = struct b (shapes_of fs)
  type_shape b (t_dictionary k t s) = type_shape b t
  type_shape b (t_extension n t m) = type_shape b t
  type_shape b t = leaf b (leaf_type t)

  pub shape_of : FieldTree → Shape
  shape_of (field n t b m) = type_shape b t

  pub shapes_of : FieldTrees → Shapes
  shapes_of no_fields = no_shapes
  shapes_of (more_fields f fs) = shape (shape_of f) (shapes_of fs)

-- the slot is one of the field
abbrev pub IsSlotOf : FieldTree → Slot → Type 0
IsSlotOf f s = IsOf (shape_of f) s

-- a type beneath its extensions
abbrev pub base : TypeTree → TypeTree
base (t_extension n t m) = base t
base t = t
