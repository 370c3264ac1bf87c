-- The leaf arrays whose values are written, by what they stand for.
use Rattle.std.specs.Prelude.{◌≡◌, true, map}
use Rattle.shredding.specs.Slot.{truth}
use Rattle.columns_array.specs.declared.arrays.ArrayBox.{ArrayBox}
use Rattle.columns_array.specs.declared.arrays.ArrayBox.TheVariants as boxes
use Rattle.columns_core.specs.Natives.{value_days, value_i8, value_i16, value_i32, value_i64, value_i128, value_u8, value_u16, value_u32, value_u64}
use Rattle.columns_core.specs.Shapes.{base, leaf_type}
use Rattle.columns_slots.specs.Bytes.{pieces_values}
use Rattle.columns_slots.specs.Slots.{type_of}
use Rattle.columns_slots.specs.Tree.{ArrayTree, null_array, leaf_array}
use Rattle.pq_tree.specs.Physical.{Physical, boolean, int32, int64, byte_array, fixed}
use Rattle.pq_files.specs.Statistics.{has_order}
use Rattle.write_values.specs.declared.leaf.Leaf.{Leaf}
use Rattle.write_values.specs.declared.leaf.Leaf.TheVariants.{Null, Boolean, Int8, Int16, Int32, UInt8, UInt16, UInt32, WideUInt32, Int64, UInt64, Utf8, LargeUtf8, Binary, LargeBinary, FixedSizeBinary, Months, Days, Decimal}
use Rattle.write_values.specs.Decimals.{form_physical}
use Rattle.write_values.specs.Fixed.{strings_in, width_in}
use Rattle.write_values.specs.Served.{is_served}

-- what the array stands for
abbrev pub leaf_tree : Leaf → ArrayTree
leaf_tree (Null a) = null_array a.now.0 a.now.1
leaf_tree (Boolean a) = leaf_array a.now.0 (map truth a.now.1.0) a.now.1.1
leaf_tree (Int8 a) = leaf_array a.now.0 (map (value_i8 (base a.now.0)) a.now.1.0) a.now.1.1
leaf_tree (Int16 a) = leaf_array a.now.0 (map (value_i16 (base a.now.0)) a.now.1.0) a.now.1.1
leaf_tree (Int32 a) = leaf_array a.now.0 (map (value_i32 (base a.now.0)) a.now.1.0) a.now.1.1
leaf_tree (UInt8 a) = leaf_array a.now.0 (map (value_u8 (base a.now.0)) a.now.1.0) a.now.1.1
leaf_tree (UInt16 a) = leaf_array a.now.0 (map (value_u16 (base a.now.0)) a.now.1.0) a.now.1.1
leaf_tree (UInt32 a) = leaf_array a.now.0 (map (value_u32 (base a.now.0)) a.now.1.0) a.now.1.1
leaf_tree (WideUInt32 a) = leaf_array a.now.0 (map (value_u32 (base a.now.0)) a.now.1.0) a.now.1.1
leaf_tree (Int64 a) = leaf_array a.now.0 (map (value_i64 (base a.now.0)) a.now.1.0) a.now.1.1
leaf_tree (UInt64 a) = leaf_array a.now.0 (map (value_u64 (base a.now.0)) a.now.1.0) a.now.1.1
leaf_tree (Utf8 a) = leaf_array a.now.0 (pieces_values a.now.1.0 a.now.1.1.0) a.now.1.1.1
leaf_tree (LargeUtf8 a) = leaf_array a.now.0 (pieces_values a.now.1.0 a.now.1.1.0) a.now.1.1.1
leaf_tree (Binary a) = leaf_array a.now.0 (pieces_values a.now.1.0 a.now.1.1.0) a.now.1.1.1
leaf_tree (LargeBinary a) = leaf_array a.now.0 (pieces_values a.now.1.0 a.now.1.1.0) a.now.1.1.1
leaf_tree (FixedSizeBinary a) = leaf_array a.now.0 (strings_in a.now.0 a.now.1.0) a.now.1.1
leaf_tree (Months a) = leaf_array a.now.0 (map (value_i32 (base a.now.0)) a.now.1.0) a.now.1.1
leaf_tree (Days a) = leaf_array a.now.0 (map (value_days (base a.now.0)) a.now.1.0) a.now.1.1
leaf_tree (Decimal a form) = leaf_array a.now.0 (map (value_i128 (base a.now.0)) a.now.1.0) a.now.1.1

-- the physical type of its column
abbrev pub leaf_physical : Leaf → Physical
leaf_physical (Null a) = int32
leaf_physical (Boolean a) = boolean
leaf_physical (Int8 a) = int32
leaf_physical (Int16 a) = int32
leaf_physical (Int32 a) = int32
leaf_physical (UInt8 a) = int32
leaf_physical (UInt16 a) = int32
leaf_physical (UInt32 a) = int32
leaf_physical (WideUInt32 a) = int64
leaf_physical (Int64 a) = int64
leaf_physical (UInt64 a) = int64
leaf_physical (Utf8 a) = byte_array
leaf_physical (LargeUtf8 a) = byte_array
leaf_physical (Binary a) = byte_array
leaf_physical (LargeBinary a) = byte_array
leaf_physical (FixedSizeBinary a) = fixed (width_in a.now.0)
leaf_physical (Months a) = fixed 12
leaf_physical (Days a) = fixed 12
leaf_physical (Decimal a form) = form_physical form

-- The values of an array that are written under the physical type have it by their kind; numbers of 32 bits and decimals are of several kinds.
abbrev pub IsStoredAs : ArrayBox → Physical → Type 0
IsStoredAs (boxes.Null a) p = p ≡ int32
IsStoredAs (boxes.Boolean a) p = p ≡ boolean
IsStoredAs (boxes.Int8 a) p = p ≡ int32
IsStoredAs (boxes.Int16 a) p = p ≡ int32
IsStoredAs (boxes.Int32 a) p = Unit {0}
IsStoredAs (boxes.Int64 a) p = p ≡ int64
IsStoredAs (boxes.Int128 a) p = Unit {0}
IsStoredAs (boxes.UInt8 a) p = p ≡ int32
IsStoredAs (boxes.UInt16 a) p = p ≡ int32
IsStoredAs (boxes.UInt32 a) p = Unit {0}
IsStoredAs (boxes.UInt64 a) p = p ≡ int64
IsStoredAs (boxes.DaysMs a) p = p ≡ fixed 12
IsStoredAs (boxes.Utf8 a) p = p ≡ byte_array
IsStoredAs (boxes.LargeUtf8 a) p = p ≡ byte_array
IsStoredAs (boxes.Binary a) p = p ≡ byte_array
IsStoredAs (boxes.LargeBinary a) p = p ≡ byte_array
IsStoredAs (boxes.FixedSizeBinary a) p = p ≡ fixed (width_in a.0)
IsStoredAs a p = ⊥

-- The leaf is this array, whose values are written under this physical type.
pub record IsLeafOf (a : ArrayTree) (p : Physical) (leaf : Leaf) : Type 0 where
  pub tree : leaf_tree leaf ≡ a
  pub physical : leaf_physical leaf ≡ p
  pub served : is_served (base (type_of a)) p ≡ true

-- Numbers of 32 bits have an order: of the types that are stored so nulls alone have none.
abbrev pub HasOrder : Leaf → Type 0
HasOrder (Int8 a) = has_order (leaf_type (base a.now.0)) ≡ true
HasOrder (Int16 a) = has_order (leaf_type (base a.now.0)) ≡ true
HasOrder (Int32 a) = has_order (leaf_type (base a.now.0)) ≡ true
HasOrder (UInt8 a) = has_order (leaf_type (base a.now.0)) ≡ true
HasOrder (UInt16 a) = has_order (leaf_type (base a.now.0)) ≡ true
HasOrder (UInt32 a) = has_order (leaf_type (base a.now.0)) ≡ true
HasOrder leaf = Unit {0}
