-- The tree that an `ArrayBox` stands for.
use Rattle.std.specs.Prelude.{Bool, true, false, List, [], ◌∷◌, map}
use Rattle.shredding.specs.Slot.{truth}
use Rattle.columns_core.specs.Shapes.{base}
use Rattle.columns_core.specs.Natives.{value_i8, value_i16, value_i32, value_i64, value_i128, value_u8, value_u16, value_u32, value_u64, value_days}
use Rattle.columns_slots.specs.Tree.{ArrayTree, null_array, leaf_array, ArrayTrees, no_arrays, more_arrays}
use Rattle.columns_slots.specs.Bytes.{pieces_values, chunks_values}
use Rattle.columns_leaf.specs.Fixed.{fixed_width, fixed_count}
use Rattle.columns_array.specs.declared.arrays.ArrayBox.{ArrayBox}
use Rattle.columns_array.specs.declared.arrays.ArrayBox.TheVariants.{Null as NullBox, Boolean as BooleanBox, Int8 as Int8Box, Int16 as Int16Box, Int32 as Int32Box, Int64 as Int64Box, Int128 as Int128Box, UInt8 as UInt8Box, UInt16 as UInt16Box, UInt32 as UInt32Box, UInt64 as UInt64Box, DaysMs as DaysMsBox, Utf8 as Utf8Box, LargeUtf8 as LargeUtf8Box, Binary as BinaryBox, LargeBinary as LargeBinaryBox, FixedSizeBinary as FixedSizeBinaryBox, Dictionary as DictionaryBox, List as ListBox, LargeList as LargeListBox, FixedSizeList as FixedSizeListBox, Struct as StructBox, Map as MapBox}

abbrev pub boxed : ArrayBox → ArrayTree
boxed (NullBox a) = null_array a.0 a.1
boxed (BooleanBox a) = leaf_array a.0 (map truth a.1.0) a.1.1
boxed (Int8Box a) = leaf_array a.0 (map (value_i8 (base a.0)) a.1.0) a.1.1
boxed (Int16Box a) = leaf_array a.0 (map (value_i16 (base a.0)) a.1.0) a.1.1
boxed (Int32Box a) = leaf_array a.0 (map (value_i32 (base a.0)) a.1.0) a.1.1
boxed (Int64Box a) = leaf_array a.0 (map (value_i64 (base a.0)) a.1.0) a.1.1
boxed (Int128Box a) = leaf_array a.0 (map (value_i128 (base a.0)) a.1.0) a.1.1
boxed (UInt8Box a) = leaf_array a.0 (map (value_u8 (base a.0)) a.1.0) a.1.1
boxed (UInt16Box a) = leaf_array a.0 (map (value_u16 (base a.0)) a.1.0) a.1.1
boxed (UInt32Box a) = leaf_array a.0 (map (value_u32 (base a.0)) a.1.0) a.1.1
boxed (UInt64Box a) = leaf_array a.0 (map (value_u64 (base a.0)) a.1.0) a.1.1
boxed (DaysMsBox a) = leaf_array a.0 (map (value_days (base a.0)) a.1.0) a.1.1
boxed (Utf8Box a) = leaf_array a.0 (pieces_values a.1.0 a.1.1.0) a.1.1.1
boxed (LargeUtf8Box a) = leaf_array a.0 (pieces_values a.1.0 a.1.1.0) a.1.1.1
boxed (BinaryBox a) = leaf_array a.0 (pieces_values a.1.0 a.1.1.0) a.1.1.1
boxed (LargeBinaryBox a) = leaf_array a.0 (pieces_values a.1.0 a.1.1.0) a.1.1.1
boxed (FixedSizeBinaryBox a) = leaf_array a.0 (chunks_values (fixed_width (base a.0)) (fixed_count (base a.0) a.1.0) a.1.0) a.1.1
boxed (DictionaryBox a) = a
boxed (ListBox a) = a
boxed (LargeListBox a) = a
boxed (FixedSizeListBox a) = a
boxed (StructBox a) = a
boxed (MapBox a) = a

abbrev pub all_boxed : List ArrayBox → ArrayTrees
all_boxed [] = no_arrays
all_boxed (b ∷ bs) = more_arrays (boxed b) (all_boxed bs)

-- whether other arrays are in the array
abbrev pub holds_arrays : ArrayBox → Bool
holds_arrays (DictionaryBox a) = true
holds_arrays (ListBox a) = true
holds_arrays (LargeListBox a) = true
holds_arrays (FixedSizeListBox a) = true
holds_arrays (StructBox a) = true
holds_arrays (MapBox a) = true
holds_arrays b = false
