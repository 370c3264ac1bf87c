-- Which types an array may have, and the types of what is in it (Arrow columnar format, "Physical Memory Layout", the table of
-- layouts). Each test is made of a type without its extensions.
use Rattle.std.specs.Prelude.{ℕ, Bool, true, false, Option, Some, None}
use Rattle.columns_core.specs.declared.types.IntegerType.{IntegerType}
use Rattle.columns_core.specs.declared.types.IntervalUnit.TheVariants.{YearMonth, DayTime}
use Rattle.columns_core.specs.Tree.{TypeTree, t_null, t_boolean, t_int8, t_int16, t_int32, t_int64, t_uint8, t_uint16, t_uint32, t_uint64, t_timestamp, t_date32, t_date64, t_time32, t_time64, t_duration, t_interval, t_binary, t_fixed_size_binary, t_large_binary, t_utf8, t_large_utf8, t_list, t_fixed_size_list, t_large_list, t_struct, t_map, t_dictionary, t_decimal, field, FieldTrees, no_fields}

abbrev pub is_null_type : TypeTree → Bool
is_null_type t_null = true
is_null_type t = false

abbrev pub is_boolean : TypeTree → Bool
is_boolean t_boolean = true
is_boolean t = false

-- byte strings under small or large offsets
abbrev pub is_binary : Bool → TypeTree → Bool
is_binary false t_binary = true
is_binary true t_large_binary = true
is_binary large t = false

-- texts under small or large offsets
abbrev pub is_text : Bool → TypeTree → Bool
is_text false t_utf8 = true
is_text true t_large_utf8 = true
is_text large t = false

-- the number of bytes of each string of fixed size
abbrev pub byte_width : TypeTree → Option ℕ
byte_width (t_fixed_size_binary n) = Some n
byte_width t = None

-- the types whose arrays have a value at each position
abbrev pub is_leaf : TypeTree → Bool
is_leaf t_boolean = true
is_leaf t_int8 = true
is_leaf t_int16 = true
is_leaf t_int32 = true
is_leaf t_int64 = true
is_leaf t_uint8 = true
is_leaf t_uint16 = true
is_leaf t_uint32 = true
is_leaf t_uint64 = true
is_leaf (t_timestamp u z) = true
is_leaf t_date32 = true
is_leaf t_date64 = true
is_leaf (t_time32 u) = true
is_leaf (t_time64 u) = true
is_leaf (t_duration u) = true
is_leaf (t_interval YearMonth) = true
is_leaf (t_interval DayTime) = true
is_leaf t_binary = true
is_leaf (t_fixed_size_binary n) = true
is_leaf t_large_binary = true
is_leaf t_utf8 = true
is_leaf t_large_utf8 = true
is_leaf (t_decimal p s) = true
is_leaf t = false

-- the type of the items, for each kind of list and for maps
abbrev pub small_item : TypeTree → Option TypeTree
small_item (t_list (field n t b m)) = Some t
small_item t = None

abbrev pub large_item : TypeTree → Option TypeTree
large_item (t_large_list (field n t b m)) = Some t
large_item t = None

abbrev pub map_item : TypeTree → Option TypeTree
map_item (t_map (field n t b m) s) = Some t
map_item t = None

-- the type of the items of what has offsets
abbrev pub list_item : TypeTree → Option TypeTree
list_item (t_list (field n t b m)) = Some t
list_item (t_large_list (field n t b m)) = Some t
list_item (t_map (field n t b m) s) = Some t
list_item t = None

-- the type of the items of a list of fixed size, and that size
abbrev pub fixed_item : TypeTree → Option TypeTree
fixed_item (t_fixed_size_list (field n t b m) k) = Some t
fixed_item t = None

abbrev pub fixed_size : TypeTree → ℕ
fixed_size (t_fixed_size_list f k) = k
fixed_size t = 0

-- the type of a dictionary's entries, and that of its keys
abbrev pub entry_type : TypeTree → Option TypeTree
entry_type (t_dictionary k t s) = Some t
entry_type t = None

abbrev pub key_type : TypeTree → Option IntegerType
key_type (t_dictionary k t s) = Some k
key_type t = None

-- the fields of a struct
abbrev pub fields_in : TypeTree → Option FieldTrees
fields_in (t_struct fs) = Some fs
fields_in t = None

abbrev pub part_types : TypeTree → FieldTrees
part_types (t_struct fs) = fs
part_types t = no_fields
