-- What the keys of a dictionary are.
use Rattle.std.specs.Prelude.{ℤ, pos, List, map}
use Rattle.columns_core.specs.Tree.{TypeTree}
use Rattle.columns_slots.specs.Tree.{Mask}
use Rattle.columns_core.specs.declared.types.IntegerType.{IntegerType}
use Rattle.columns_core.specs.declared.types.IntegerType.TheVariants as kind
use Rattle.columns_leaf.specs.declared.keys.DictionaryKeys.{DictionaryKeys}
use Rattle.columns_leaf.specs.declared.keys.DictionaryKeys.TheVariants.{Int8, Int16, Int32, Int64, UInt8, UInt16, UInt32, UInt64}

abbrev pub keys_of : DictionaryKeys → List ℤ
keys_of (Int8 a) = a.1.0
keys_of (Int16 a) = a.1.0
keys_of (Int32 a) = a.1.0
keys_of (Int64 a) = a.1.0
keys_of (UInt8 a) = map pos a.1.0
keys_of (UInt16 a) = map pos a.1.0
keys_of (UInt32 a) = map pos a.1.0
keys_of (UInt64 a) = map pos a.1.0

abbrev pub key_mask : DictionaryKeys → Mask
key_mask (Int8 a) = a.1.1
key_mask (Int16 a) = a.1.1
key_mask (Int32 a) = a.1.1
key_mask (Int64 a) = a.1.1
key_mask (UInt8 a) = a.1.1
key_mask (UInt16 a) = a.1.1
key_mask (UInt32 a) = a.1.1
key_mask (UInt64 a) = a.1.1

abbrev pub key_kind : DictionaryKeys → IntegerType
key_kind (Int8 a) = kind.Int8
key_kind (Int16 a) = kind.Int16
key_kind (Int32 a) = kind.Int32
key_kind (Int64 a) = kind.Int64
key_kind (UInt8 a) = kind.UInt8
key_kind (UInt16 a) = kind.UInt16
key_kind (UInt32 a) = kind.UInt32
key_kind (UInt64 a) = kind.UInt64

-- the type of the array of the keys, with the extensions that it may have
abbrev pub key_data_type : DictionaryKeys → TypeTree
key_data_type (Int8 a) = a.0
key_data_type (Int16 a) = a.0
key_data_type (Int32 a) = a.0
key_data_type (Int64 a) = a.0
key_data_type (UInt8 a) = a.0
key_data_type (UInt16 a) = a.0
key_data_type (UInt32 a) = a.0
key_data_type (UInt64 a) = a.0
