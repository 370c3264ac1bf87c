-- The compact grammar, read from left to right (Thrift compact protocol).
use Rattle.std.specs.Prelude.{ℕ, zero, suc, ℤ, pos, negsuc, ◌/◌, ◌%◌, ◌^◌, ◌+ℤ◌, ◌∷◌, length, Bool, nat_lt, ◌==◌, Option, Some, None, Result, Ok, Err, if◌then◌else◌}
use Rattle.pq_thrift.specs.declared.fault.Fault.{Fault}
use Rattle.pq_thrift.specs.declared.fault.Fault.TheVariants.{Outside, Deep}
use Rattle.pq_thrift.specs.declared.kind.Kind.{Kind}
use Rattle.pq_thrift.specs.declared.kind.Kind.TheVariants as kinds
use Rattle.pq_thrift.specs.Kinds.{kind_of}
use Rattle.pq_thrift.specs.Numbers.{byte_at, varint_at, signed_at, int8_at, bytes_at, binary_at}
use Rattle.pq_thrift.specs.Parse.{◌>>=◌, Parse}
use Rattle.pq_thrift.specs.Value.{Value, truth, int8, int16, int32, int64, double, binary, list, set, map, struct, Values, no_values, value, Pairs, no_pairs, pair, Fields, no_fields, field}

-- the kind that a number stands for
abbrev pub known : {A : Type 0} → Option Kind → (Kind → Result A Fault) → Result A Fault
known None f = Err Outside
known (Some k) f = f k

-- ---- heads

-- "List and Set": a list's number of its elements' type, and how many they are
abbrev pub count_at : ℕ → Parse ℕ
count_at size bytes = if size == 15 then varint_at bytes else Ok (size, bytes)

unfoldable pub list_head_at : Parse (ℕ × ℕ)
list_head_at bytes = do
  b ← byte_at bytes
  n ← count_at (b.0 / 16) b.1
  Ok ((b.0 % 16, n.0), n.1)

-- "Map": the numbers of the types of the keys and of the values, and how many pairs there are. An empty map has no types.
abbrev pub map_types_at : ℕ → Parse (ℕ × ℕ × ℕ)
map_types_at zero bytes = Ok ((0, 0, 0), bytes)
map_types_at (suc n) bytes = byte_at bytes >>= λ b. known (kind_of (b.0 / 16)) (λ key_kind. known (kind_of (b.0 % 16)) (λ kind. Ok ((b.0 / 16, b.0 % 16, suc n), b.1)))

unfoldable pub map_head_at : Parse (ℕ × ℕ × ℕ)
map_head_at bytes = do
  n ← varint_at bytes
  map_types_at n.0 n.1

-- "Struct": a field's id and kind, or None at the end of the struct
abbrev pub is_id : ℤ → Bool
is_id (pos n) = nat_lt n (2 ^ 15)
is_id (negsuc n) = nat_lt n (2 ^ 15)

abbrev pub id_at : ℤ → ℕ → Parse ℤ
id_at last step bytes = if step == 0 then signed_at (2 ^ 16) bytes else (if is_id (last +ℤ pos step) then Ok (last +ℤ pos step, bytes) else Err Outside)

unfoldable pub field_head_at : ℤ → Parse (Option (ℤ × Kind))
field_head_at last bytes = do
  b ← byte_at bytes
  if b.0 == 0 then Ok (None, b.1) else known (kind_of (b.0 % 16)) (λ kind. id_at last (b.0 / 16) b.1 >>= λ id. Ok (Some (id.0, kind), id.1))

-- ---- values

-- a value in a list, set or map, given how those that have parts are read
abbrev pub element_with : Parse (ℕ × Values) → Parse (ℕ × ℕ × Pairs) → Parse Fields → Kind → Parse Value
element_with lists maps structs kinds.True bytes = byte_at bytes >>= λ x. Ok (truth (x.0 == 1), x.1)
element_with lists maps structs kinds.False bytes = byte_at bytes >>= λ x. Ok (truth (x.0 == 1), x.1)
element_with lists maps structs kinds.I8 bytes = int8_at bytes >>= λ x. Ok (int8 x.0, x.1)
element_with lists maps structs kinds.I16 bytes = signed_at (2 ^ 16) bytes >>= λ x. Ok (int16 x.0, x.1)
element_with lists maps structs kinds.I32 bytes = signed_at (2 ^ 32) bytes >>= λ x. Ok (int32 x.0, x.1)
element_with lists maps structs kinds.I64 bytes = signed_at (2 ^ 64) bytes >>= λ x. Ok (int64 x.0, x.1)
element_with lists maps structs kinds.Double bytes = bytes_at 8 bytes >>= λ x. Ok (double x.0, x.1)
element_with lists maps structs kinds.Binary bytes = binary_at bytes >>= λ x. Ok (binary x.0, x.1)
element_with lists maps structs kinds.List bytes = lists bytes >>= λ x. Ok (list x.0.0 x.0.1, x.1)
element_with lists maps structs kinds.Set bytes = lists bytes >>= λ x. Ok (set x.0.0 x.0.1, x.1)
element_with lists maps structs kinds.Map bytes = maps bytes >>= λ x. Ok (map x.0.0 x.0.1 x.0.2, x.1)
element_with lists maps structs kinds.Struct bytes = structs bytes >>= λ x. Ok (struct x.0, x.1)

-- a value in a field: a truth value stands in the header, as if its byte, 1 or 2, stood behind it
abbrev pub field_with : (Kind → Parse Value) → Kind → Parse Value
field_with one kinds.True bytes = one kinds.True (1 ∷ bytes)
field_with one kinds.False bytes = one kinds.False (2 ∷ bytes)
field_with one kinds.I8 bytes = one kinds.I8 bytes
field_with one kinds.I16 bytes = one kinds.I16 bytes
field_with one kinds.I32 bytes = one kinds.I32 bytes
field_with one kinds.I64 bytes = one kinds.I64 bytes
field_with one kinds.Double bytes = one kinds.Double bytes
field_with one kinds.Binary bytes = one kinds.Binary bytes
field_with one kinds.List bytes = one kinds.List bytes
field_with one kinds.Set bytes = one kinds.Set bytes
field_with one kinds.Map bytes = one kinds.Map bytes
field_with one kinds.Struct bytes = one kinds.Struct bytes

-- a value of the type that a number stands for
abbrev pub part_with : (Kind → Parse Value) → ℕ → Parse Value
part_with one number bytes = known (kind_of number) (λ kind. one kind bytes)

-- so many values
unfoldable pub values_at : Parse Value → ℕ → Parse Values
values_at one zero bytes = Ok (no_values, bytes)
values_at one (suc n) bytes = do
  first ← one bytes
  others ← values_at one n first.1
  Ok (value first.0 others.0, others.1)

-- a key and its value
unfoldable pub pair_with : Parse Value → Parse Value → Parse (Value × Value)
pair_with keys items bytes = do
  key ← keys bytes
  item ← items key.1
  Ok ((key.0, item.0), item.1)

-- so many pairs
unfoldable pub pairs_at : Parse (Value × Value) → ℕ → Parse Pairs
pairs_at one zero bytes = Ok (no_pairs, bytes)
pairs_at one (suc n) bytes = do
  first ← one bytes
  others ← pairs_at one n first.1
  Ok (pair first.0.0 first.0.1 others.0, others.1)

abbrev pub fields_step : (Kind → Parse Value) → (ℤ → Parse Fields) → Option (ℤ × Kind) → Parse Fields
fields_step one more None bytes = Ok (no_fields, bytes)
fields_step one more (Some head) bytes = do
  first ← one head.1 bytes
  others ← more head.0 first.1
  Ok (field head.0 first.0 others.0, others.1)

-- The number bounds the turns. The count of the bytes is always enough, since each field takes a byte.
unfoldable pub fields_at : (Kind → Parse Value) → ℕ → ℤ → Parse Fields
fields_at one zero last bytes = Err Outside
fields_at one (suc n) last bytes = do
  head ← field_head_at last bytes
  fields_step one (fields_at one n) head.0 head.1

-- a list, a map and a struct, given how a value in them is read
unfoldable pub list_with : (Kind → Parse Value) → Parse (ℕ × Values)
list_with one bytes = do
  head ← list_head_at bytes
  vs ← values_at (part_with one head.0.0) head.0.1 head.1
  Ok ((head.0.0, vs.0), vs.1)

unfoldable pub map_with : (Kind → Parse Value) → Parse (ℕ × ℕ × Pairs)
map_with one bytes = do
  head ← map_head_at bytes
  ps ← pairs_at (pair_with (part_with one head.0.0) (part_with one head.0.1)) head.0.2 head.1
  Ok ((head.0.0, head.0.1, ps.0), ps.1)

unfoldable pub struct_with : (Kind → Parse Value) → Parse Fields
struct_with one bytes = fields_at (field_with one) (length bytes) (pos 0) bytes

-- a value that nests to at most the number
unfoldable pub value_at : ℕ → Kind → Parse Value
value_at zero kind bytes = Err Deep
value_at (suc depth) kind bytes = element_with (list_with (value_at depth)) (map_with (value_at depth)) (struct_with (value_at depth)) kind bytes

-- a list, a map and a struct whose parts nest to at most the number
abbrev pub list_at : ℕ → Parse (ℕ × Values)
list_at depth = list_with (value_at depth)

abbrev pub map_at : ℕ → Parse (ℕ × ℕ × Pairs)
map_at depth = map_with (value_at depth)

abbrev pub struct_at : ℕ → Parse Fields
struct_at depth = struct_with (value_at depth)

-- a value whose parts nest to at most the number
abbrev pub element_at : ℕ → Kind → Parse Value
element_at depth = element_with (list_at depth) (map_at depth) (struct_at depth)

abbrev pub max_depth : ℕ
max_depth = 128

-- the struct at the front
abbrev pub thrift_at : Parse Value
thrift_at = value_at max_depth kinds.Struct
