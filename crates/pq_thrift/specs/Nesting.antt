-- Which bytes begin with a value that nests too deep.
use Rattle.std.specs.Prelude.{◌≡◌, ◌⊎◌, ◌<◌, ◌≤◌, ℕ, zero, suc, ℤ, pos, List, [], ◌++◌, Some}
use Rattle.pq_thrift.specs.declared.kind.Kind.{Kind}
use Rattle.pq_thrift.specs.declared.kind.Kind.TheVariants as kinds
use Rattle.pq_thrift.specs.Kinds.{kind_of}
use Rattle.pq_thrift.specs.Reading.{max_depth}
use Rattle.pq_thrift.specs.Value.{Value, Values, Pairs, Fields, no_fields, field}
use Rattle.pq_thrift.specs.Grammar.{IsListHead, IsMapHead, IsFieldHead, InField, IsNumbered, IsElement, AreElements, ArePairs, Spells, count, pair_count, depth, values_depth, pairs_depth, fields_depth}

-- the fields that stand before one, behind the last id, and the id that it then goes by
abbrev pub AreBefore : Fields → ℤ → ℤ → List ℕ → Type 0
AreBefore no_fields last id text = (last ≡ id) × (text ≡ [])
AreBefore (field i v fs) last id text = (kind : Kind) × (head : List ℕ) × (body : List ℕ) × (others : List ℕ) × IsFieldHead last head i kind × InField v (IsElement v) kind body × AreBefore fs i id others × (text ≡ head ++ (body ++ others))

-- the elements that stand before one of a list, which nest no deeper than d, and what is behind them
pub record InList (d : ℕ) (bytes : List ℕ) (inner : Kind) (behind : List ℕ) : Type 0 where
  pub number : ℕ
  pub n : ℕ
  pub head : List ℕ
  pub before : Values
  pub front : List ℕ
  pub heads : IsListHead head number n
  pub known : kind_of number ≡ Some inner
  pub spells : AreElements before number front
  pub fewer : count before < n
  pub deep : values_depth before ≤ d
  pub parts : bytes ≡ head ++ (front ++ behind)

-- the next one in a map is a key, or the value behind its key
pub record BehindKey (d key_number : ℕ) (bytes behind : List ℕ) : Type 0 where
  pub key : Value
  pub text : List ℕ
  pub spells : IsNumbered key_number (IsElement key) text
  pub deep : depth key ≤ d
  pub parts : bytes ≡ text ++ behind

abbrev pub IsNext : ℕ → ℕ → Kind → Kind → List ℕ → Kind → List ℕ → Type 0
IsNext d key_number key_kind kind bytes inner behind = ((inner ≡ key_kind) × (behind ≡ bytes)) ⊎ ((inner ≡ kind) × BehindKey d key_number bytes behind)

-- the same of a map
pub record InMap (d : ℕ) (bytes : List ℕ) (inner : Kind) (behind : List ℕ) : Type 0 where
  pub key_number : ℕ
  pub number : ℕ
  pub key_kind : Kind
  pub kind : Kind
  pub n : ℕ
  pub head : List ℕ
  pub before : Pairs
  pub front : List ℕ
  pub middle : List ℕ
  pub heads : IsMapHead head key_number number n
  pub key_known : kind_of key_number ≡ Some key_kind
  pub known : kind_of number ≡ Some kind
  pub spells : ArePairs before key_number number front
  pub fewer : pair_count before < n
  pub deep : pairs_depth before ≤ d
  pub parts : bytes ≡ head ++ (front ++ middle)
  pub next : IsNext d key_number key_kind kind middle inner behind

-- the same of a struct, with the head of the field
pub record InStruct (d : ℕ) (bytes : List ℕ) (kind : Kind) (behind : List ℕ) : Type 0 where
  pub before : Fields
  pub last : ℤ
  pub id : ℤ
  pub front : List ℕ
  pub head : List ℕ
  pub spells : AreBefore before (pos 0) last front
  pub heads : IsFieldHead last head id kind
  pub deep : fields_depth before ≤ d
  pub parts : bytes ≡ front ++ (head ++ behind)

abbrev pub IsListKind : Kind → Type 0
IsListKind kind = (kind ≡ kinds.List) ⊎ (kind ≡ kinds.Set)

-- A value of the kind is announced, and the bytes behind that begin with one that nests past the number,
-- whatever follows the place where it does. The announcement is a field's head, or the head of a list, set or map that has parts.
abbrev pub NestsPast : ℕ → Kind → List ℕ → Type 0
NestsPast zero kind bytes = Unit {0}
NestsPast (suc d) kind bytes =
    (IsListKind kind × (inner : Kind) × (behind : List ℕ) × InList d bytes inner behind × NestsPast d inner behind)
    ⊎ ((kind ≡ kinds.Map) × (inner : Kind) × (behind : List ℕ) × InMap d bytes inner behind × NestsPast d inner behind)
    ⊎ ((kind ≡ kinds.Struct) × (inner : Kind) × (behind : List ℕ) × InStruct d bytes inner behind × NestsPast d inner behind)

-- the bytes begin with no struct of the grammar, and with none that nests past the limit before it leaves the grammar
pub record IsOutside (bytes : List ℕ) : Type 0 where
  pub spells_none : (text rest : List ℕ) (v : Value) → bytes ≡ text ++ rest → Spells text v → ⊥
  pub shallow : NestsPast max_depth kinds.Struct bytes → ⊥
