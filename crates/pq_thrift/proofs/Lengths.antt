-- How long the text of a value is, where its numbers fit.
use Rattle.std.proofs.Common.{◌≡◌, ℕ, zero, suc, ◌+◌, ◌*◌, ◌/◌, ◌^◌, ◌<◌, ◌≤◌, ◌-ℤ◌, ◌==◌, ℤ, pos, Bool, true, false, cond, List, [], ◌∷◌, ◌++◌, length, arith, inl, inr}
use Rattle.std.proofs.lemmas.Bool.{cases_lt, lt-ltb, le-ltb}
use Rattle.std.proofs.lemmas.List.{length-append}
use Rattle.std.proofs.Math.Nat.{pow-suc}
use Rattle.pq_numbers.specs.Varint.{digits, varint}
use Rattle.pq_numbers.specs.Zigzag.{zigzag}
use Rattle.pq_thrift.specs.Grammar.{count, pair_count}
use Rattle.pq_thrift.specs.Spelling.{number_of, list_head, map_head, short, field_head, kind_in_field, behind_head, spell, spell_values, spell_pairs, spell_fields, Fits, ValuesFit, PairsFit, FieldsFit}
use Rattle.pq_thrift.specs.Value.{Value, truth, int8, int16, int32, int64, double, binary, list, set, map, struct, Values, no_values, value, Pairs, no_pairs, pair, Fields, no_fields, field}

-- ---- varints

pub varint_short : (j k n : ℕ) → n < 128 ^ suc j → length (digits k n) ≤ suc j
unfolding digits
varint_short j zero n h = omega arith
varint_short zero (suc k) n h = rw (lt-ltb n 128 (omega (arith, h))) (omega arith)
varint_short (suc j) (suc k) n h =
    elim (cases_lt n 128) [
      | inl small ↦ rw (lt-ltb n 128 small) (omega arith)
      | inr large ↦
          let p : 128 ^ suc (suc j) ≡ 128 ^ suc j * 128 = pow-suc 128 (suc j) in
          let below : n / 128 < 128 ^ suc j = omega (arith, h, p) in
          rw (le-ltb n 128 large) (omega (arith, varint_short j k (n / 128) below))
    ]

pub varint_of_32 : (n : ℕ) → n < 2 ^ 32 → length (varint n) ≤ 5
varint_of_32 n h = varint_short 4 n n (omega (arith, h))

pub varint_of_64 : (n : ℕ) → n < 2 ^ 64 → length (varint n) ≤ 10
varint_of_64 n h = varint_short 9 n n (omega (arith, h))

-- ---- at most so many bytes

-- an id that isn't a step has three bytes of its own
abbrev pub head_most : ℤ → ℤ → ℕ
head_most last id = cond (short (id -ℤ last) == 0) 4 1

abbrev mutual
  pub most : Value → ℕ
  most (truth b) = 1
  most (int8 z) = 1
  most (int16 z) = 3
  most (int32 z) = 5
  most (int64 z) = 10
  most (double s) = 8
  most (binary s) = length (varint (length s)) + length s
  most (list number vs) = 11 + most_values vs
  most (set number vs) = 11 + most_values vs
  most (map key_number number ps) = 11 + most_pairs ps
  most (struct fs) = most_fields fs (pos 0)

  pub most_values : Values → ℕ
  most_values no_values = 0
  most_values (value v vs) = most v + most_values vs

  pub most_pairs : Pairs → ℕ
  most_pairs no_pairs = 0
  most_pairs (pair k v ps) = most k + most v + most_pairs ps

  pub most_fields : Fields → ℤ → ℕ
  most_fields no_fields last = 1
  most_fields (field id v fs) last = head_most last id + most v + most_fields fs id

list_head_short : (number n : ℕ) → n < 2 ^ 64 → length (list_head number n) ≤ 11
unfolding list_head
list_head_short number n h =
    elim (cases_lt n 15) [
      | inl few ↦ rw (lt-ltb n 15 few) (omega arith)
      | inr many ↦ rw (le-ltb n 15 many) (omega (arith, varint_of_64 n h))
    ]

map_head_short : (key_number number n : ℕ) → n < 2 ^ 64 → length (map_head key_number number n) ≤ 11
unfolding map_head
map_head_short key_number number zero h = omega arith
map_head_short key_number number (suc n) h = omega (arith, length-append (varint (suc n)) ((16 * key_number + number) ∷ []), varint_of_64 (suc n) h)

field_head_short : (last id : ℤ) (number : ℕ) → zigzag id < 2 ^ 16 → length (field_head last id number) ≤ head_most last id
unfolding field_head
field_head_short last id number h = chosen (short (id -ℤ last) == 0)
  where
    chosen : (b : Bool) → length (cond b (number ∷ varint (zigzag id)) ((16 * short (id -ℤ last) + number) ∷ [])) ≤ cond b 4 1
    chosen true = omega (arith, varint_short 2 (zigzag id) (zigzag id) (omega (arith, h)))
    chosen false = omega arith

behind_short : (v : Value) (text : List ℕ) → length (behind_head v text) ≤ length text
behind_short (truth b) text = omega arith
behind_short (int8 z) text = omega arith
behind_short (int16 z) text = omega arith
behind_short (int32 z) text = omega arith
behind_short (int64 z) text = omega arith
behind_short (double s) text = omega arith
behind_short (binary s) text = omega arith
behind_short (list number vs) text = omega arith
behind_short (set number vs) text = omega arith
behind_short (map key_number number ps) text = omega arith
behind_short (struct fs) text = omega arith

mutual
  pub spell_short : (v : Value) → Fits v → length (spell v) ≤ most v
  spell_short (truth b) h = omega arith
  spell_short (int8 z) h = omega arith
  spell_short (int16 z) h = varint_short 2 (zigzag z) (zigzag z) (omega (arith, h))
  spell_short (int32 z) h = varint_of_32 (zigzag z) h
  spell_short (int64 z) h = varint_of_64 (zigzag z) h
  spell_short (double s) h = omega (arith, h)
  spell_short (binary s) h = omega (arith, length-append (varint (length s)) s)
  spell_short (list number vs) h = omega (arith, length-append (list_head number (count vs)) (spell_values vs), list_head_short number (count vs) h.0, values_short vs h.1)
  spell_short (set number vs) h = omega (arith, length-append (list_head number (count vs)) (spell_values vs), list_head_short number (count vs) h.0, values_short vs h.1)
  spell_short (map key_number number ps) h = omega (arith, length-append (map_head key_number number (pair_count ps)) (spell_pairs ps), map_head_short key_number number (pair_count ps) h.0, pairs_short ps h.1)
  spell_short (struct fs) h = fields_short fs (pos 0) h

  values_short : (vs : Values) → ValuesFit vs → length (spell_values vs) ≤ most_values vs
  values_short no_values h = omega arith
  values_short (value v vs) h = omega (arith, length-append (spell v) (spell_values vs), spell_short v h.0, values_short vs h.1)

  pairs_short : (ps : Pairs) → PairsFit ps → length (spell_pairs ps) ≤ most_pairs ps
  pairs_short no_pairs h = omega arith
  pairs_short (pair k v ps) h = omega (arith, length-append (spell k) (spell v ++ spell_pairs ps), length-append (spell v) (spell_pairs ps), spell_short k h.0, spell_short v h.1, pairs_short ps h.2)

  fields_short : (fs : Fields) (last : ℤ) → FieldsFit fs → length (spell_fields fs last) ≤ most_fields fs last
  fields_short no_fields last h = omega arith
  fields_short (field id v fs) last h =
      let head = field_head last id (number_of (kind_in_field v)) in
      let text = behind_head v (spell v) in
      omega (arith, length-append head (text ++ spell_fields fs id), length-append text (spell_fields fs id), field_head_short last id (number_of (kind_in_field v)) h.0, behind_short v (spell v), spell_short v h.1, fields_short fs id h.2)
