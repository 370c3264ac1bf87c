-- An array is larger than those in it.
use Rattle.std.specs.Prelude.{◌+◌, ◌≤◌, List, [], ◌∷◌}
use Rattle.std.proofs.Common.{arith}
use denote.Param.Weighed.{most}
use Rattle.columns_slots.specs.Slots.{tree_size, trees_size}
use Rattle.columns_array.specs.Boxed.{boxed, all_boxed}
use Rattle.columns_array.specs.declared.arrays.ArrayBox.{ArrayBox}
use Rattle.columns_array.specs.declared.arrays.ArrayBox.TheVariants.{Null as NullBox, Boolean as BooleanBox, Int8 as Int8Box, Int16 as Int16Box, Int32 as Int32Box, Int64 as Int64Box, Int128 as Int128Box, UInt8 as UInt8Box, UInt16 as UInt16Box, UInt32 as UInt32Box, UInt64 as UInt64Box, DaysMs as DaysMsBox, Utf8 as Utf8Box, LargeUtf8 as LargeUtf8Box, Binary as BinaryBox, LargeBinary as LargeBinaryBox, FixedSizeBinary as FixedSizeBinaryBox, Dictionary as DictionaryBox, List as ListBox, LargeList as LargeListBox, FixedSizeList as FixedSizeListBox, Struct as StructBox, Map as MapBox}
use Rattle.columns_array.specs.declared.arrays.DictionaryArray.TheDeep.{deep-ArrayBox}

pub box_falls : (b : ArrayBox) → deep-ArrayBox b ≤ tree_size (boxed b) + 1
box_falls (NullBox a) = omega arith
box_falls (BooleanBox a) = omega arith
box_falls (Int8Box a) = omega arith
box_falls (Int16Box a) = omega arith
box_falls (Int32Box a) = omega arith
box_falls (Int64Box a) = omega arith
box_falls (Int128Box a) = omega arith
box_falls (UInt8Box a) = omega arith
box_falls (UInt16Box a) = omega arith
box_falls (UInt32Box a) = omega arith
box_falls (UInt64Box a) = omega arith
box_falls (DaysMsBox a) = omega arith
box_falls (Utf8Box a) = omega arith
box_falls (LargeUtf8Box a) = omega arith
box_falls (BinaryBox a) = omega arith
box_falls (LargeBinaryBox a) = omega arith
box_falls (FixedSizeBinaryBox a) = omega arith
box_falls (DictionaryBox a) = omega arith
box_falls (ListBox a) = omega arith
box_falls (LargeListBox a) = omega arith
box_falls (FixedSizeListBox a) = omega arith
box_falls (StructBox a) = omega arith
box_falls (MapBox a) = omega arith

pub boxes_fall : (bs : List ArrayBox) → most deep-ArrayBox bs ≤ trees_size (all_boxed bs) + 1
boxes_fall [] = omega arith
boxes_fall (b ∷ bs) = omega (arith, box_falls b, boxes_fall bs)
