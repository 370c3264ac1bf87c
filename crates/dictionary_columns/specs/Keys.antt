-- The keys of a dictionary's column as a column of numbers: the same pairs and pages, with the numbers from 0 on in the place of the entries
-- (Parquet format, "Dictionary Page"; Encodings, "Dictionary Encoding"; Arrow columnar format, "Dictionary-encoded Layout").
use Rattle.std.specs.Prelude.{◌≡◌, ◌<◌, ℕ, zero, suc, pos, false, cond, nat_lt, length, All, option_map, List, [], ◌∷◌, map, slice_index_or}
use Rattle.std.specs.Int.{Width, w32, w64, cast_signed, cast_unsigned}
use Rattle.columns_core.specs.declared.types.IntegerType.{IntegerType}
use Rattle.columns_core.specs.declared.types.IntegerType.TheVariants as K
use Rattle.columns_core.specs.Tree.{TypeTree, t_int8, t_int16, t_int32, t_int64, t_uint8, t_uint16, t_uint32, t_uint64}
use Rattle.pq_files.specs.Page.{values_in}
use Rattle.pq_tree.specs.Physical.{Physical, int32, int64}
use Rattle.shredding.specs.Shred.{Triple}
use Rattle.shredding.specs.Slot.{Slot, Value, truth, null, number, value}

-- ---- the types of keys

abbrev pub key_tree : IntegerType → TypeTree
key_tree K.Int8 = t_int8
key_tree K.Int16 = t_int16
key_tree K.Int32 = t_int32
key_tree K.Int64 = t_int64
key_tree K.UInt8 = t_uint8
key_tree K.UInt16 = t_uint16
key_tree K.UInt32 = t_uint32
key_tree K.UInt64 = t_uint64

-- as which numbers keys of the type are stored
abbrev pub key_physical : IntegerType → Physical
key_physical K.Int64 = int64
key_physical K.UInt64 = int64
key_physical key = int32

abbrev pub key_width : IntegerType → Width
key_width K.Int64 = w64
key_width K.UInt64 = w64
key_width key = w32

-- ---- keys as values

-- the key of an entry, as it is stored
abbrev pub stored_key : IntegerType → ℕ → Value
stored_key key n = number (cast_signed (key_width key) n)

-- those of so many entries from a place on
abbrev pub stored_keys : IntegerType → ℕ → ℕ → List Value
stored_keys key place zero = []
stored_keys key place (suc n) = stored_key key place ∷ stored_keys key (suc place) n

-- the entry at a place
abbrev pub entry_from : List Value → ℕ → Value
entry_from es n = slice_index_or es n (truth false)

-- the entry of a key that is stored so
abbrev pub entry_of_stored : IntegerType → List Value → Value → Value
entry_of_stored key es (number z) = entry_from es (cast_unsigned (key_width key) z)
entry_of_stored key es v = v

-- the entry of a key
abbrev pub entry_of : List Value → Value → Value
entry_of es (number (pos n)) = entry_from es n
entry_of es v = v

-- the triple with another value in the place of its own
abbrev pub with_value : (Value → Value) → Triple → Triple
with_value f t = record { repetition = t.repetition; definition = t.definition; value = option_map f t.value }

-- the triples of a dictionary's column, by those of its keys
abbrev pub entered : List Value → List Triple → List Triple
entered es ts = map (with_value (entry_of es)) ts

-- ---- keys in slots

-- the slot of a key's entry, and null where it numbers none
abbrev pub found : List Value → Slot → Slot
found es (value (number (pos n))) = cond (nat_lt n (length es)) (value (entry_from es n)) null
found es s = null

-- the value is the key of one of so many entries
abbrev pub IsEntryKey : ℕ → Value → Type 0
IsEntryKey n v = (i : ℕ) × (i < n) × (v ≡ number (pos i))

-- those of all triples that have one are
abbrev pub AreEntryKeys : ℕ → List Triple → Type 0
AreEntryKeys n ts = All (IsEntryKey n) (values_in ts)
