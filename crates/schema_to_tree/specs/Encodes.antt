-- Which encodings a type's values may have (Parquet format, "Encodings").
use Rattle.std.specs.Prelude.{Bool, true, false, leb}
use Rattle.columns_core.specs.Tree.{TypeTree, t_null, t_int8, t_int16, t_int32, t_int64, t_uint8, t_uint16, t_uint32, t_uint64, t_timestamp, t_date32, t_date64, t_time32, t_time64, t_duration, t_binary, t_large_binary, t_utf8, t_large_utf8, t_dictionary, t_decimal}
use Rattle.columns_core.specs.Shapes.{base}
use Rattle.pq_tree.specs.declared.types.Encoding.{Encoding}
use Rattle.pq_tree.specs.declared.types.Encoding.TheVariants.{Plain, PlainDictionary, RleDictionary, DeltaBinaryPacked, DeltaLengthByteArray}

-- numbers that are stored as numbers of 32 or 64 bits
abbrev pub is_delta : TypeTree → Bool
is_delta t_null = true
is_delta t_int8 = true
is_delta t_int16 = true
is_delta t_int32 = true
is_delta t_int64 = true
is_delta t_uint8 = true
is_delta t_uint16 = true
is_delta t_uint32 = true
is_delta t_uint64 = true
is_delta t_date32 = true
is_delta t_date64 = true
is_delta (t_time32 u) = true
is_delta (t_time64 u) = true
is_delta (t_timestamp u z) = true
is_delta (t_duration u) = true
is_delta (t_decimal p s) = leb p 18
is_delta t = false

-- byte strings of any length
abbrev pub is_strings : TypeTree → Bool
is_strings t_binary = true
is_strings t_large_binary = true
is_strings t_utf8 = true
is_strings t_large_utf8 = true
is_strings t = false

abbrev pub is_dictionary : TypeTree → Bool
is_dictionary (t_dictionary key t sorted) = true
is_dictionary t = false

-- of a type beneath its extensions
abbrev pub base_encodes : Encoding → TypeTree → Bool
base_encodes Plain t = true
base_encodes PlainDictionary t = is_dictionary t
base_encodes RleDictionary t = is_dictionary t
base_encodes DeltaLengthByteArray t = is_strings t
base_encodes DeltaBinaryPacked t = is_delta t
base_encodes e t = false

abbrev pub encodes : Encoding → TypeTree → Bool
encodes e t = base_encodes e (base t)
