-- The compact grammar: which bytes spell a value (Thrift compact protocol).
use Rattle.std.specs.Prelude.{◌≡◌, ◌≢◌, ◌⊎◌, ℕ, zero, suc, max, ℤ, pos, ◌/◌, ◌%◌, ◌^◌, ◌+ℤ◌, List, [], ◌∷◌, ◌++◌, length, true, ◌==◌, Some, if◌then◌else◌}
use Rattle.std.specs.Int.{w8, cast_signed}
use Rattle.pq_numbers.specs.Varint.{IsNumber}
use Rattle.pq_numbers.specs.Zigzag.{IsSigned}
use Rattle.pq_thrift.specs.declared.kind.Kind.{Kind}
use Rattle.pq_thrift.specs.declared.kind.Kind.TheVariants as kinds
use Rattle.pq_thrift.specs.Kinds.{kind_of}
use Rattle.pq_thrift.specs.Reading.{is_id}
use Rattle.pq_thrift.specs.Value.{Value, truth, int8, int16, int32, int64, double, binary, list, set, map, struct, Values, no_values, value, Pairs, no_pairs, pair, Fields, no_fields, field}

-- ---- heads

-- "List and Set". A size below 15 stands in the high half of the byte. With 15 there it follows.
abbrev pub IsCount : ℕ → List ℕ → ℕ → Type 0
IsCount high text n = ((high ≡ 15) × IsNumber text n) ⊎ ((high ≢ 15) × (n ≡ high) × (text ≡ []))

-- the number of the elements' type, and how many they are
pub record IsListHead (text : List ℕ) (number n : ℕ) : Type 0 where
  pub byte : ℕ
  pub tail : List ℕ
  pub parts : text ≡ byte ∷ tail
  pub low : byte % 16 ≡ number
  pub count : IsCount (byte / 16) tail n

-- "Map". The size, and one byte with the type of the keys in its high half and that of the values in its low half
pub record IsFullMapHead (text : List ℕ) (key_number number n : ℕ) : Type 0 where
  pub size : List ℕ
  pub byte : ℕ
  pub parts : text ≡ size ++ byte ∷ []
  pub number_of : IsNumber size n
  pub high : byte / 16 ≡ key_number
  pub low : byte % 16 ≡ number

-- An empty map is its size alone, and has the types 0 and 0.
abbrev pub IsMapHead : List ℕ → ℕ → ℕ → ℕ → Type 0
IsMapHead text key_number number zero = (key_number ≡ 0) × (number ≡ 0) × IsNumber text 0
IsMapHead text key_number number (suc n) = IsFullMapHead text key_number number (suc n)

-- "Struct". A step from the last id stands in the high half. With 0 there the id follows.
abbrev pub IsId : ℤ → ℕ → List ℕ → ℤ → Type 0
IsId last step text id = ((step ≡ 0) × IsSigned (2 ^ 16) text id) ⊎ ((step ≢ 0) × (id ≡ last +ℤ pos step) × (is_id id ≡ true) × (text ≡ []))

pub record IsFieldHead (last : ℤ) (text : List ℕ) (id : ℤ) (kind : Kind) : Type 0 where
  pub byte : ℕ
  pub tail : List ℕ
  pub parts : text ≡ byte ∷ tail
  pub known : kind_of (byte % 16) ≡ Some kind
  pub is : IsId last (byte / 16) tail id

-- ---- values

-- "Binary encoding": the length, and the bytes
abbrev pub IsBinary : List ℕ → List ℕ → Type 0
IsBinary text bytes = (head : List ℕ) × IsNumber head (length bytes) × (text ≡ head ++ bytes)

abbrev pub count : Values → ℕ
count no_values = 0
count (value v vs) = suc (count vs)

abbrev pub pair_count : Pairs → ℕ
pair_count no_pairs = 0
pair_count (pair k v ps) = suc (pair_count ps)

-- A truth value in a field stands in the header.
abbrev pub InField : Value → (Kind → List ℕ → Type 0) → Kind → List ℕ → Type 0
InField (truth b) other kind text = (kind ≡ (if b then kinds.True else kinds.False)) × (text ≡ [])
InField (int8 z) other kind text = other kind text
InField (int16 z) other kind text = other kind text
InField (int32 z) other kind text = other kind text
InField (int64 z) other kind text = other kind text
InField (double s) other kind text = other kind text
InField (binary s) other kind text = other kind text
InField (list number vs) other kind text = other kind text
InField (set number vs) other kind text = other kind text
InField (map key_number number ps) other kind text = other kind text
InField (struct fs) other kind text = other kind text

-- of a type that the number stands for
abbrev pub IsNumbered : ℕ → (Kind → List ℕ → Type 0) → List ℕ → Type 0
IsNumbered number other text = (kind : Kind) × (kind_of number ≡ Some kind) × other kind text

-- the text spells the value, as one of a list whose elements are of the kind
abbrev mutual
  pub IsElement : Value → Kind → List ℕ → Type 0
  IsElement (truth b) kind text = ((kind ≡ kinds.True) ⊎ (kind ≡ kinds.False)) × (c : ℕ) × (text ≡ c ∷ []) × (b ≡ (c == 1))
  IsElement (int8 z) kind text = (kind ≡ kinds.I8) × (c : ℕ) × (text ≡ c ∷ []) × (z ≡ cast_signed w8 c)
  IsElement (int16 z) kind text = (kind ≡ kinds.I16) × IsSigned (2 ^ 16) text z
  IsElement (int32 z) kind text = (kind ≡ kinds.I32) × IsSigned (2 ^ 32) text z
  IsElement (int64 z) kind text = (kind ≡ kinds.I64) × IsSigned (2 ^ 64) text z
  IsElement (double s) kind text = (kind ≡ kinds.Double) × (length s ≡ 8) × (text ≡ s)
  IsElement (binary s) kind text = (kind ≡ kinds.Binary) × IsBinary text s
  IsElement (list number vs) kind text = (kind ≡ kinds.List) × (head : List ℕ) × (body : List ℕ) × IsListHead head number (count vs) × AreElements vs number body × (text ≡ head ++ body)
  IsElement (set number vs) kind text = (kind ≡ kinds.Set) × (head : List ℕ) × (body : List ℕ) × IsListHead head number (count vs) × AreElements vs number body × (text ≡ head ++ body)
  IsElement (map key_number number ps) kind text = (kind ≡ kinds.Map) × (head : List ℕ) × (body : List ℕ) × IsMapHead head key_number number (pair_count ps) × ArePairs ps key_number number body × (text ≡ head ++ body)
  IsElement (struct fs) kind text = (kind ≡ kinds.Struct) × AreFields fs (pos 0) text

  -- the elements of a list, each of the type that the number stands for
  pub AreElements : Values → ℕ → List ℕ → Type 0
  AreElements no_values number text = text ≡ []
  AreElements (value v vs) number text = (first : List ℕ) × (others : List ℕ) × IsNumbered number (IsElement v) first × AreElements vs number others × (text ≡ first ++ others)

  -- the pairs of a map
  pub ArePairs : Pairs → ℕ → ℕ → List ℕ → Type 0
  ArePairs no_pairs key_number number text = text ≡ []
  ArePairs (pair k v ps) key_number number text = (key : List ℕ) × (item : List ℕ) × (others : List ℕ) × IsNumbered key_number (IsElement k) key × IsNumbered number (IsElement v) item × ArePairs ps key_number number others × (text ≡ key ++ (item ++ others))

  -- the fields of a struct, behind the last id, and the byte that ends it
  pub AreFields : Fields → ℤ → List ℕ → Type 0
  AreFields no_fields last text = text ≡ 0 ∷ []
  AreFields (field id v fs) last text = (kind : Kind) × (head : List ℕ) × (body : List ℕ) × (others : List ℕ) × IsFieldHead last head id kind × InField v (IsElement v) kind body × AreFields fs id others × (text ≡ head ++ (body ++ others))

-- How deep a value nests. One without parts nests 1, every other one more than its deepest part.
abbrev mutual
  pub depth : Value → ℕ
  depth (truth b) = 1
  depth (int8 z) = 1
  depth (int16 z) = 1
  depth (int32 z) = 1
  depth (int64 z) = 1
  depth (double s) = 1
  depth (binary s) = 1
  depth (list number vs) = suc (values_depth vs)
  depth (set number vs) = suc (values_depth vs)
  depth (map key_number number ps) = suc (pairs_depth ps)
  depth (struct fs) = suc (fields_depth fs)

  pub values_depth : Values → ℕ
  values_depth no_values = 0
  values_depth (value v vs) = max (depth v) (values_depth vs)

  pub pairs_depth : Pairs → ℕ
  pairs_depth no_pairs = 0
  pairs_depth (pair k v ps) = max (max (depth k) (depth v)) (pairs_depth ps)

  pub fields_depth : Fields → ℕ
  fields_depth no_fields = 0
  fields_depth (field id v fs) = max (depth v) (fields_depth fs)

-- the text is a struct that spells the value
abbrev pub Spells : List ℕ → Value → Type 0
Spells text v = IsElement v kinds.Struct text
