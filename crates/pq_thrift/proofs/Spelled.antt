-- What is written spells the value.
use Rattle.std.proofs.Common.{◌≡◌, ◌≢◌, ◌⊎◌, ℕ, suc, ℤ, pos, negsuc, ◌+◌, ◌*◌, ◌/◌, ◌%◌, ◌^◌, ◌<◌, ◌+ℤ◌, ◌-ℤ◌, Bool, true, false, cond, eqb, ltb, List, [], length, Some, refl, sym, ap, subst, ◌∙◌, inl, inr, arith, lit≤}
use Rattle.std.proofs.lemmas.Bool.{cases_lt, lt-ltb, le-ltb}
use Rattle.std.proofs.lemmas.Bool.Decides.{eqb_tells}
use Rattle.std.proofs.lemmas.Int.{ints}
use Rattle.std.specs.Int.{w8, cast_unsigned}
use Rattle.pq_numbers.specs.Varint.{varint}
use Rattle.pq_numbers.specs.Zigzag.{zigzag}
use Rattle.pq_numbers.proofs.Examples.{one_byte}
use Rattle.pq_numbers.proofs.Signed.{is_signed}
use Rattle.pq_numbers.proofs.Writes.{is_number}
use Rattle.pq_thrift.specs.declared.kind.Kind.{Kind}
use Rattle.pq_thrift.specs.declared.kind.Kind.TheVariants as kinds
use Rattle.pq_thrift.specs.Kinds.{kind_of}
use Rattle.pq_thrift.specs.Value.{Value, truth, int8, int16, int32, int64, double, binary, list, set, map, struct, Values, no_values, value, Pairs, no_pairs, pair, Fields, no_fields, field}
use Rattle.pq_thrift.specs.Reading.{is_id}
use Rattle.pq_thrift.specs.Grammar.{IsListHead, IsMapHead, IsId, IsFieldHead, count, pair_count, InField, IsNumbered, IsElement, AreElements, ArePairs, AreFields, Spells}
use Rattle.pq_thrift.specs.Spelling.{number_of, list_head, map_head, short, field_head, kind_in_field, behind_head, spell, spell_values, spell_pairs, spell_fields, IsOfType, IsStruct, HasTypes, IsWritable, AreWritable, ArePairsWritable, AreFieldsWritable, Fits, ValuesFit, PairsFit, FieldsFit}
use Rattle.pq_thrift.proofs.Writes.{number_below}

-- ---- types

-- the kind is one of the value's
abbrev IsOfKind : Kind → Value → Type 0
IsOfKind kind (truth b) = (kind ≡ kinds.True) ⊎ (kind ≡ kinds.False)
IsOfKind kind (int8 z) = kind ≡ kinds.I8
IsOfKind kind (int16 z) = kind ≡ kinds.I16
IsOfKind kind (int32 z) = kind ≡ kinds.I32
IsOfKind kind (int64 z) = kind ≡ kinds.I64
IsOfKind kind (double s) = kind ≡ kinds.Double
IsOfKind kind (binary s) = kind ≡ kinds.Binary
IsOfKind kind (list number vs) = kind ≡ kinds.List
IsOfKind kind (set number vs) = kind ≡ kinds.Set
IsOfKind kind (map key_number number ps) = kind ≡ kinds.Map
IsOfKind kind (struct fs) = kind ≡ kinds.Struct

kind_for : (number : ℕ) (v : Value) → IsOfType number v → (kind : Kind) × (kind_of number ≡ Some kind) × IsOfKind kind v
kind_for number (truth b) h = elim h [ inl e ↦ (kinds.True, ap kind_of e, inl refl) | inr e ↦ (kinds.False, ap kind_of e, inr refl) ]
kind_for number (int8 z) h = (kinds.I8, ap kind_of h, refl)
kind_for number (int16 z) h = (kinds.I16, ap kind_of h, refl)
kind_for number (int32 z) h = (kinds.I32, ap kind_of h, refl)
kind_for number (int64 z) h = (kinds.I64, ap kind_of h, refl)
kind_for number (double s) h = (kinds.Double, ap kind_of h, refl)
kind_for number (binary s) h = (kinds.Binary, ap kind_of h, refl)
kind_for number (list element vs) h = (kinds.List, ap kind_of h, refl)
kind_for number (set element vs) h = (kinds.Set, ap kind_of h, refl)
kind_for number (map key element ps) h = (kinds.Map, ap kind_of h, refl)
kind_for number (struct fs) h = (kinds.Struct, ap kind_of h, refl)

pub type_below : (number : ℕ) (v : Value) → IsOfType number v → number < 16
type_below number (truth b) h = elim h [ inl e ↦ omega arith | inr e ↦ omega arith ]
type_below number (int8 z) h = omega arith
type_below number (int16 z) h = omega arith
type_below number (int32 z) h = omega arith
type_below number (int64 z) h = omega arith
type_below number (double s) h = omega arith
type_below number (binary s) h = omega arith
type_below number (list element vs) h = omega arith
type_below number (set element vs) h = omega arith
type_below number (map key element ps) h = omega arith
type_below number (struct fs) h = omega arith

pub map_types_below : (keys values : ℕ) (ps : Pairs) → HasTypes keys values ps → ArePairsWritable ps keys values → (keys < 16) × (values < 16)
map_types_below keys values no_pairs h w = (omega (arith, h.0), omega (arith, h.1))
map_types_below keys values (pair k v ps) h w = (type_below keys k w.0, type_below values v w.2)

struct_kind : (v : Value) → IsStruct v → IsOfKind kinds.Struct v
struct_kind (truth b) h = absurd h
struct_kind (int8 z) h = absurd h
struct_kind (int16 z) h = absurd h
struct_kind (int32 z) h = absurd h
struct_kind (int64 z) h = absurd h
struct_kind (double s) h = absurd h
struct_kind (binary s) h = absurd h
struct_kind (list number vs) h = absurd h
struct_kind (set number vs) h = absurd h
struct_kind (map key_number number ps) h = absurd h
struct_kind (struct fs) h = refl

-- ---- heads

kind_known : (k : Kind) → kind_of (number_of k) ≡ Some k
kind_known kinds.True = refl
kind_known kinds.False = refl
kind_known kinds.I8 = refl
kind_known kinds.I16 = refl
kind_known kinds.I32 = refl
kind_known kinds.I64 = refl
kind_known kinds.Double = refl
kind_known kinds.Binary = refl
kind_known kinds.List = refl
kind_known kinds.Set = refl
kind_known kinds.Map = refl
kind_known kinds.Struct = refl

is_list_head : (number n : ℕ) → number < 16 → n < 2 ^ 64 → IsListHead (list_head number n) number n
unfolding list_head
is_list_head number n low h =
    elim (cases_lt n 15) [
      | inl small ↦
          let test : ltb n 15 ≡ true = lt-ltb n 15 small in
          let other : (16 * n + number) / 16 ≢ 15 = omega arith in
          record { byte = 16 * n + number; tail = []; parts = rw test refl; low = omega arith; count = inr (other, omega arith, refl) }
      | inr large ↦
          let test : ltb n 15 ≡ false = le-ltb n 15 large in
          record { byte = 240 + number; tail = varint n; parts = rw test refl; low = omega arith; count = inl (omega arith, is_number n h) }
    ]

is_map_head : (keys values : ℕ) (ps : Pairs) → HasTypes keys values ps → ArePairsWritable ps keys values → pair_count ps < 2 ^ 64 → IsMapHead (map_head keys values (pair_count ps)) keys values (pair_count ps)
unfolding map_head
is_map_head keys values no_pairs h w small = (h.0, h.1, one_byte 0 (omega arith))
is_map_head keys values (pair k v ps) h w small =
    let low : values < 16 = type_below values v w.2 in
    record { size = varint (suc (pair_count ps)); byte = 16 * keys + values; parts = refl; number_of = is_number (suc (pair_count ps)) small; high = omega arith; low = omega arith }

short_below : (d : ℤ) → short d < 16
short_below (pos n) =
    elim (cases_lt n 16) [
      | inl small ↦ let test : ltb n 16 ≡ true = lt-ltb n 16 small in rw test small
      | inr large ↦ let test : ltb n 16 ≡ false = le-ltb n 16 large in rw test (omega arith)
    ]
short_below (negsuc n) = omega arith

short_is : (d : ℤ) → (short d ≡ 0 → ⊥) → d ≡ pos (short d)
short_is (pos n) some =
    elim (cases_lt n 16) [
      | inl small ↦ let test : ltb n 16 ≡ true = lt-ltb n 16 small in rw test refl
      | inr large ↦ let test : ltb n 16 ≡ false = le-ltb n 16 large in absurd (some (rw test refl))
    ]
short_is (negsuc n) some = absurd (some refl)

is_id_fits : (z : ℤ) → zigzag z < 2 ^ 16 → is_id z ≡ true
is_id_fits (pos n) h = lt-ltb n (2 ^ 15) (omega arith)
is_id_fits (negsuc n) h = lt-ltb n (2 ^ 15) (omega arith)

is_field_head : (last id : ℤ) (k : Kind) → zigzag id < 2 ^ 16 → IsFieldHead last (field_head last id (number_of k)) id k
unfolding field_head
is_field_head last id k h =
    let number : number_of k < 16 = number_below k in
    let s = short (id -ℤ last) in
    elim (eqb_tells s 0) [
      | inl (test, none) ↦
          let low : number_of k % 16 ≡ number_of k = omega (arith, number) in
          record { byte = number_of k; tail = varint (zigzag id); parts = rw test refl; known = ap kind_of low ∙ kind_known k; is = inl (omega (arith, number), is_signed (2 ^ 16) id (lit≤ tt) h) }
      | inr (test, some) ↦
          let below : s < 16 = short_below (id -ℤ last) in
          let low : (16 * s + number_of k) % 16 ≡ number_of k = omega (arith, number) in
          let high : (16 * s + number_of k) / 16 ≡ s = omega (arith, number) in
          let step : id -ℤ last ≡ pos s = short_is (id -ℤ last) some in
          let sum : id ≡ last +ℤ pos s = omega (arith, ints, step) in
          let there : IsId last s [] id = inr (some, sum, is_id_fits id h, refl) in
          record { byte = 16 * s + number_of k; tail = []; parts = rw test refl; known = ap kind_of low ∙ kind_known k; is = subst (λ (j : ℕ). IsId last j [] id) (sym high) there }
    ]

-- ---- values

truth_is : (b : Bool) → b ≡ eqb (cond b 1 2) 1
truth_is true = refl
truth_is false = refl

in_field_spelled : (v : Value) → (IsOfKind (kind_in_field v) v → IsElement v (kind_in_field v) (spell v)) → InField v (IsElement v) (kind_in_field v) (behind_head v (spell v))
in_field_spelled (truth b) h = (refl, refl)
in_field_spelled (int8 z) h = h refl
in_field_spelled (int16 z) h = h refl
in_field_spelled (int32 z) h = h refl
in_field_spelled (int64 z) h = h refl
in_field_spelled (double s) h = h refl
in_field_spelled (binary s) h = h refl
in_field_spelled (list number vs) h = h refl
in_field_spelled (set number vs) h = h refl
in_field_spelled (map key_number number ps) h = h refl
in_field_spelled (struct fs) h = h refl

numbered : (number : ℕ) (v : Value) (text : List ℕ) → IsOfType number v → ((kind : Kind) → IsOfKind kind v → IsElement v kind text) → IsNumbered number (IsElement v) text
numbered number v text h spelled = let k = kind_for number v h in (k.0, k.1, spelled k.0 k.2)

mutual
  pub element_spelled : (v : Value) (k : Kind) → IsOfKind k v → IsWritable v → Fits v → IsElement v k (spell v)
  element_spelled (truth b) k e w f = (e, cond b 1 2, refl, truth_is b)
  element_spelled (int8 z) k e w f = (e, cast_unsigned w8 z, refl, sym f)
  element_spelled (int16 z) k e w f = (e, is_signed (2 ^ 16) z (lit≤ tt) f)
  element_spelled (int32 z) k e w f = (e, is_signed (2 ^ 32) z (lit≤ tt) f)
  element_spelled (int64 z) k e w f = (e, is_signed (2 ^ 64) z (lit≤ tt) f)
  element_spelled (double s) k e w f = (e, f, refl)
  element_spelled (binary s) k e w f = (e, (varint (length s), is_number (length s) f, refl))
  element_spelled (list number vs) k e w f = (e, list_head number (count vs), spell_values vs, is_list_head number (count vs) w.0 f.0, values_spelled vs number w.1 f.1, refl)
  element_spelled (set number vs) k e w f = (e, list_head number (count vs), spell_values vs, is_list_head number (count vs) w.0 f.0, values_spelled vs number w.1 f.1, refl)
  element_spelled (map keys values ps) k e w f = (e, map_head keys values (pair_count ps), spell_pairs ps, is_map_head keys values ps w.0 w.1 f.0, pairs_spelled ps keys values w.1 f.1, refl)
  element_spelled (struct fs) k e w f = (e, fields_spelled fs (pos 0) w f)

  values_spelled : (vs : Values) (number : ℕ) → AreWritable vs number → ValuesFit vs → AreElements vs number (spell_values vs)
  values_spelled no_values number w f = refl
  values_spelled (value v vs) number w f = (spell v, spell_values vs, numbered number v (spell v) w.0 (λ kind is. element_spelled v kind is w.1 f.0), values_spelled vs number w.2 f.1, refl)

  pairs_spelled : (ps : Pairs) (keys values : ℕ) → ArePairsWritable ps keys values → PairsFit ps → ArePairs ps keys values (spell_pairs ps)
  pairs_spelled no_pairs keys values w f = refl
  pairs_spelled (pair k v ps) keys values w f = (
    spell k,
    spell v,
    spell_pairs ps,
    numbered keys k (spell k) w.0 (λ kind is. element_spelled k kind is w.1 f.0),
    numbered values v (spell v) w.2 (λ kind is. element_spelled v kind is w.3 f.1),
    pairs_spelled ps keys values w.4 f.2,
    refl,
  )

  fields_spelled : (fs : Fields) (last : ℤ) → AreFieldsWritable fs → FieldsFit fs → AreFields fs last (spell_fields fs last)
  fields_spelled no_fields last w f = refl
  fields_spelled (field id v fs) last w f = (
    kind_in_field v,
    field_head last id (number_of (kind_in_field v)),
    behind_head v (spell v),
    spell_fields fs id,
    is_field_head last id (kind_in_field v) f.0,
    in_field_spelled v (λ e. element_spelled v (kind_in_field v) e w.0 f.1),
    fields_spelled fs id w.1 f.2,
    refl,
  )

-- a struct is spelled by what is written
pub is_spelled : (v : Value) → IsStruct v → IsWritable v → Fits v → Spells (spell v) v
is_spelled v k w f = element_spelled v kinds.Struct (struct_kind v k) w f
