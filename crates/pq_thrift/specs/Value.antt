-- What a Thrift value is, without where it lies in memory (Thrift compact protocol: the types of values).
-- A double is its eight bytes, lowest first.
use Rattle.std.specs.Prelude.{ℕ, ℤ, List, [], ◌∷◌, Bool, map as list_map}
use Rattle.pq_thrift.specs.declared.value.Thrift.{Thrift, fold-Thrift}
use Rattle.pq_thrift.specs.declared.value.Thrift.TheOpen.{Thrift-F}

mutual
  pub data Value : Type 0 where
    truth : Bool → Value
    int8 : ℤ → Value
    int16 : ℤ → Value
    int32 : ℤ → Value
    int64 : ℤ → Value
    double : List ℕ → Value
    binary : List ℕ → Value
    list : ℕ → Values → Value
    set : ℕ → Values → Value
    map : ℕ → ℕ → Pairs → Value
    struct : Fields → Value

  pub data Values : Type 0 where
    no_values : Values
    value : Value → Values → Values

  pub data Pairs : Type 0 where
    no_pairs : Pairs
    pair : Value → Value → Pairs → Pairs

  pub data Fields : Type 0 where
    no_fields : Fields
    field : ℤ → Value → Fields → Fields

abbrev pub values_of : List Value → Values
values_of [] = no_values
values_of (v ∷ vs) = value v (values_of vs)

abbrev pub pairs_of : List (Value × Value) → Pairs
pairs_of [] = no_pairs
pairs_of (p ∷ ps) = pair p.0 p.1 (pairs_of ps)

abbrev pub fields_of : List (ℤ × Value) → Fields
fields_of [] = no_fields
fields_of (f ∷ fs) = field f.0 f.1 (fields_of fs)

-- one level, with each value inside already seen
abbrev pub view_step : Thrift-F Value → Value
view_step (Thrift-F.Bool b) = truth b
view_step (Thrift-F.I8 n) = int8 n
view_step (Thrift-F.I16 n) = int16 n
view_step (Thrift-F.I32 n) = int32 n
view_step (Thrift-F.I64 n) = int64 n
view_step (Thrift-F.Double bytes) = double bytes
view_step (Thrift-F.Binary bytes) = binary bytes.items
view_step (Thrift-F.List kind values) = list kind (values_of values.items)
view_step (Thrift-F.Set kind values) = set kind (values_of values.items)
view_step (Thrift-F.Map key_kind value_kind pairs) = map key_kind value_kind (pairs_of pairs.items)
view_step (Thrift-F.Struct fields) = struct (fields_of fields.items)

abbrev pub view : Thrift → Value
view = fold-Thrift Value view_step

abbrev pub values_view : List Thrift → Values
values_view vs = values_of (list_map view vs)

abbrev pub fields_view : List (ℤ × Thrift) → Fields
fields_view fs = fields_of (list_map (λ f. (f.0, view f.1)) fs)

abbrev pub pairs_view : List (Thrift × Thrift) → Pairs
pairs_view ps = pairs_of (list_map (λ p. (view p.0, view p.1)) ps)

abbrev pub pair_view : Thrift × Thrift → Value × Value
pair_view p = (view p.0, view p.1)

abbrev pub field_view : ℤ × Thrift → ℤ × Value
field_view f = (f.0, view f.1)
