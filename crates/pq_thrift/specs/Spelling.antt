-- The spelling that is written, and which values have one (Thrift compact protocol).
-- A size below 15 stands in a list's head, varints have no padding, and an id is a step where that is 1 to 15.
use Rattle.std.specs.Prelude.{◌≡◌, ◌⊎◌, ◌<◌, ℕ, zero, suc, ℤ, pos, negsuc, ◌+◌, ◌*◌, ◌^◌, ◌-ℤ◌, List, [], ◌∷◌, ◌++◌, length, nat_lt, ◌==◌, if◌then◌else◌}
use Rattle.std.specs.Int.{w8, cast_signed, cast_unsigned}
use Rattle.pq_numbers.specs.Varint.{varint}
use Rattle.pq_numbers.specs.Zigzag.{zigzag}
use Rattle.pq_thrift.specs.declared.kind.Kind.{Kind}
use Rattle.pq_thrift.specs.declared.kind.Kind.TheVariants as kinds
use Rattle.pq_thrift.specs.Value.{Value, truth, int8, int16, int32, int64, double, binary, list, set, map, struct, Values, no_values, value, Pairs, no_pairs, pair, Fields, no_fields, field}
use Rattle.pq_thrift.specs.Grammar.{count, pair_count}

-- the number of a kind
abbrev pub number_of : Kind → ℕ
number_of kinds.True = 1
number_of kinds.False = 2
number_of kinds.I8 = 3
number_of kinds.I16 = 4
number_of kinds.I32 = 5
number_of kinds.I64 = 6
number_of kinds.Double = 7
number_of kinds.Binary = 8
number_of kinds.List = 9
number_of kinds.Set = 10
number_of kinds.Map = 11
number_of kinds.Struct = 12

-- ---- heads

unfoldable pub list_head : ℕ → ℕ → List ℕ
list_head number n = if nat_lt n 15 then (16 * n + number) ∷ [] else (240 + number) ∷ varint n

unfoldable pub map_head : ℕ → ℕ → ℕ → List ℕ
map_head key_number number zero = 0 ∷ []
map_head key_number number (suc n) = varint (suc n) ++ (16 * key_number + number) ∷ []

-- how far the id is from the last one, where that is from 1 to 15, else 0
abbrev pub short : ℤ → ℕ
short (pos n) = if nat_lt n 16 then n else 0
short (negsuc n) = 0

unfoldable pub field_head : ℤ → ℤ → ℕ → List ℕ
field_head last id number = if short (id -ℤ last) == 0 then number ∷ varint (zigzag id) else (16 * short (id -ℤ last) + number) ∷ []

-- ---- values

-- the kind of a value in a field
abbrev pub kind_in_field : Value → Kind
kind_in_field (truth b) = if b then kinds.True else kinds.False
kind_in_field (int8 z) = kinds.I8
kind_in_field (int16 z) = kinds.I16
kind_in_field (int32 z) = kinds.I32
kind_in_field (int64 z) = kinds.I64
kind_in_field (double s) = kinds.Double
kind_in_field (binary s) = kinds.Binary
kind_in_field (list number vs) = kinds.List
kind_in_field (set number vs) = kinds.Set
kind_in_field (map key_number number ps) = kinds.Map
kind_in_field (struct fs) = kinds.Struct

abbrev pub behind_head : Value → List ℕ → List ℕ
behind_head (truth b) text = []
behind_head (int8 z) text = text
behind_head (int16 z) text = text
behind_head (int32 z) text = text
behind_head (int64 z) text = text
behind_head (double s) text = text
behind_head (binary s) text = text
behind_head (list number vs) text = text
behind_head (set number vs) text = text
behind_head (map key_number number ps) text = text
behind_head (struct fs) text = text

abbrev mutual
  pub spell : Value → List ℕ
  spell (truth b) = (if b then 1 else 2) ∷ []
  spell (int8 z) = cast_unsigned w8 z ∷ []
  spell (int16 z) = varint (zigzag z)
  spell (int32 z) = varint (zigzag z)
  spell (int64 z) = varint (zigzag z)
  spell (double s) = s
  spell (binary s) = varint (length s) ++ s
  spell (list number vs) = list_head number (count vs) ++ spell_values vs
  spell (set number vs) = list_head number (count vs) ++ spell_values vs
  spell (map key_number number ps) = map_head key_number number (pair_count ps) ++ spell_pairs ps
  spell (struct fs) = spell_fields fs (pos 0)

  pub spell_values : Values → List ℕ
  spell_values no_values = []
  spell_values (value v vs) = spell v ++ spell_values vs

  pub spell_pairs : Pairs → List ℕ
  spell_pairs no_pairs = []
  spell_pairs (pair k v ps) = spell k ++ (spell v ++ spell_pairs ps)

  pub spell_fields : Fields → ℤ → List ℕ
  spell_fields no_fields last = 0 ∷ []
  spell_fields (field id v fs) last = field_head last id (number_of (kind_in_field v)) ++ (behind_head v (spell v) ++ spell_fields fs id)

-- ---- which values have a spelling

-- the number stands for the value's type; a truth value has two
abbrev pub IsOfType : ℕ → Value → Type 0
IsOfType number (truth b) = (number ≡ 1) ⊎ (number ≡ 2)
IsOfType number (int8 z) = number ≡ 3
IsOfType number (int16 z) = number ≡ 4
IsOfType number (int32 z) = number ≡ 5
IsOfType number (int64 z) = number ≡ 6
IsOfType number (double s) = number ≡ 7
IsOfType number (binary s) = number ≡ 8
IsOfType number (list element vs) = number ≡ 9
IsOfType number (set element vs) = number ≡ 10
IsOfType number (map key element ps) = number ≡ 11
IsOfType number (struct fs) = number ≡ 12

abbrev pub IsStruct : Value → Type 0
IsStruct (truth b) = ⊥
IsStruct (int8 z) = ⊥
IsStruct (int16 z) = ⊥
IsStruct (int32 z) = ⊥
IsStruct (int64 z) = ⊥
IsStruct (double s) = ⊥
IsStruct (binary s) = ⊥
IsStruct (list element vs) = ⊥
IsStruct (set element vs) = ⊥
IsStruct (map key element ps) = ⊥
IsStruct (struct fs) = Unit {0}

-- the types of a map that has no pair
abbrev pub HasTypes : ℕ → ℕ → Pairs → Type 0
HasTypes key_number number no_pairs = (key_number ≡ 0) × (number ≡ 0)
HasTypes key_number number (pair k v ps) = Unit {0}

-- Each element has the type that is stated for it, and an empty map has the types 0 and 0. A type number has four bits.
abbrev mutual
  pub IsWritable : Value → Type 0
  IsWritable (truth b) = Unit {0}
  IsWritable (int8 z) = Unit {0}
  IsWritable (int16 z) = Unit {0}
  IsWritable (int32 z) = Unit {0}
  IsWritable (int64 z) = Unit {0}
  IsWritable (double s) = Unit {0}
  IsWritable (binary s) = Unit {0}
  IsWritable (list number vs) = (number < 16) × AreWritable vs number
  IsWritable (set number vs) = (number < 16) × AreWritable vs number
  IsWritable (map key_number number ps) = HasTypes key_number number ps × ArePairsWritable ps key_number number
  IsWritable (struct fs) = AreFieldsWritable fs

  pub AreWritable : Values → ℕ → Type 0
  AreWritable no_values number = Unit {0}
  AreWritable (value v vs) number = IsOfType number v × IsWritable v × AreWritable vs number

  pub ArePairsWritable : Pairs → ℕ → ℕ → Type 0
  ArePairsWritable no_pairs key_number number = Unit {0}
  ArePairsWritable (pair k v ps) key_number number = IsOfType key_number k × IsWritable k × IsOfType number v × IsWritable v × ArePairsWritable ps key_number number

  pub AreFieldsWritable : Fields → Type 0
  AreFieldsWritable no_fields = Unit {0}
  AreFieldsWritable (field id v fs) = IsWritable v × AreFieldsWritable fs

-- The numbers are of their types, and the lengths below 2 ^ 64.
abbrev mutual
  pub Fits : Value → Type 0
  Fits (truth b) = Unit {0}
  Fits (int8 z) = cast_signed w8 (cast_unsigned w8 z) ≡ z
  Fits (int16 z) = zigzag z < 2 ^ 16
  Fits (int32 z) = zigzag z < 2 ^ 32
  Fits (int64 z) = zigzag z < 2 ^ 64
  Fits (double s) = length s ≡ 8
  Fits (binary s) = length s < 2 ^ 64
  Fits (list number vs) = (count vs < 2 ^ 64) × ValuesFit vs
  Fits (set number vs) = (count vs < 2 ^ 64) × ValuesFit vs
  Fits (map key_number number ps) = (pair_count ps < 2 ^ 64) × PairsFit ps
  Fits (struct fs) = FieldsFit fs

  pub ValuesFit : Values → Type 0
  ValuesFit no_values = Unit {0}
  ValuesFit (value v vs) = Fits v × ValuesFit vs

  pub PairsFit : Pairs → Type 0
  PairsFit no_pairs = Unit {0}
  PairsFit (pair k v ps) = Fits k × Fits v × PairsFit ps

  pub FieldsFit : Fields → Type 0
  FieldsFit no_fields = Unit {0}
  FieldsFit (field id v fs) = (zigzag id < 2 ^ 16) × Fits v × FieldsFit fs
