-- What is read is spelled so.
use Rattle.std.proofs.Common.{◌≡◌, ◌⊎◌, ℕ, zero, suc, ℤ, pos, ◌/◌, ◌%◌, ◌^◌, ◌≤◌, ◌+ℤ◌, Bool, true, false, cond, eqb, ltb, List, [], ◌∷◌, ◌++◌, length, take, drop, Option, Some, None, Result, Ok, Err, refl, sym, ap, subst, ◌∙◌, append_assoc, inl, inr, arith}
use Rattle.std.proofs.lemmas.Bool.{ltb-true, ltb-false, eqb-true, eqb-false}
use Rattle.std.proofs.lemmas.List.{take-append-drop, length-take, append-nil}
use Rattle.std.specs.Int.{w8, cast_signed}
use Rattle.pq_numbers.specs.Varint as varints
use Rattle.pq_numbers.specs.Varint.{IsNumber}
use Rattle.pq_numbers.specs.Zigzag.{unzigzag, IsSigned}
use Rattle.pq_numbers.proofs.Numbers.{number_stands}
use Rattle.pq_thrift.specs.declared.fault.Fault.{Fault}
use Rattle.pq_thrift.specs.declared.fault.Fault.TheVariants.{Outside}
use Rattle.pq_thrift.specs.declared.kind.Kind.{Kind}
use Rattle.pq_thrift.specs.declared.kind.Kind.TheVariants as kinds
use Rattle.pq_thrift.specs.Kinds.{kind_of}
use Rattle.pq_thrift.specs.Parse.{◌>>=◌, Parse}
use Rattle.pq_thrift.specs.Numbers.{byte_at, found, varint_at, signed_at, int8_at, bytes_at, binary_at}
use Rattle.pq_thrift.specs.Value.{Value, truth, int8, int16, int32, int64, double, binary, list, set, map, struct, Values, no_values, value, Pairs, no_pairs, pair, Fields, no_fields, field}
use Rattle.pq_thrift.specs.Reading.{known, count_at, list_head_at, map_types_at, map_head_at, is_id, id_at, field_head_at, element_with, field_with, part_with, values_at, pair_with, pairs_at, fields_step, fields_at, list_with, map_with, struct_with, value_at, list_at, map_at, struct_at}
use Rattle.pq_thrift.specs.Grammar.{IsCount, IsListHead, IsMapHead, IsId, IsFieldHead, IsBinary, count, pair_count, InField, IsNumbered, IsElement, AreElements, ArePairs, AreFields, depth, values_depth, pairs_depth, fields_depth}

-- the value of a step that did not fail
pub bind_ok : {A B : Type 0} (r : Result A Fault) (f : A → Result B Fault) (y : B) → (r >>= f) ≡ Ok y → (x : A) × (r ≡ Ok x) × (f x ≡ Ok y)
bind_ok (Ok x) f y e = (x, refl, e)
bind_ok (Err d) f y e = absurd cc

-- a test that did not fail, either way round
pub guard_ok : {A : Type 0} (b : Bool) (d : Fault) (x y : A) → cond b (Err d) (Ok x) ≡ Ok y → (b ≡ false) × (x ≡ y)
guard_ok true d x y e = absurd cc
guard_ok false d x y e = (refl, cc)

pub passed_ok : {A : Type 0} (b : Bool) (d : Fault) (x y : A) → cond b (Ok x) (Err d) ≡ Ok y → (b ≡ true) × (x ≡ y)
passed_ok true d x y e = (refl, cc)
passed_ok false d x y e = absurd cc

pub chosen : {A : Type 0} (b : Bool) (x y z : A) → cond b x y ≡ z → ((b ≡ true) × (x ≡ z)) ⊎ ((b ≡ false) × (y ≡ z))
chosen true x y z e = inl (refl, e)
chosen false x y z e = inr (refl, e)

pub known_ok : {A : Type 0} (o : Option Kind) (f : Kind → Result A Fault) (y : A) → known o f ≡ Ok y → (k : Kind) × (o ≡ Some k) × (f k ≡ Ok y)
known_ok None f y e = absurd cc
known_ok (Some k) f y e = (k, refl, e)

abbrev pub done : {A : Type 0} → A → Result A Fault
done x = Ok x

pub ok_is : {A : Type 0} (x y : A) → done x ≡ done y → x ≡ y
ok_is x y e = cc

pub ok_parts : {A : Type 0} (x y : A × List ℕ) → done x ≡ done y → (x.0 ≡ y.0) × (x.1 ≡ y.1)
ok_parts {A = A} x y e =
    let q = ok_is x y e in
    (ap (λ (p : A × List ℕ). p.0) q, ap (λ (p : A × List ℕ). p.1) q)

abbrev pub with : {A B : Type 0} → (A → B) → A × List ℕ → Result (B × List ℕ) Fault
with f x = Ok (f x.0, x.1)

-- a step whose value goes through f
pub mapped : {A B : Type 0} (r : Result (A × List ℕ) Fault) (f : A → B) (y : B) (rest : List ℕ) → (r >>= with f) ≡ Ok (y, rest) → (x : A) × (r ≡ Ok (x, rest)) × (f x ≡ y)
mapped (Ok x) f y rest e =
    let same = ok_parts (f x.0, x.1) (y, rest) e in
    (x.0, ap (λ (l : List ℕ). Ok (x.0, l)) same.1, same.0)
mapped (Err d) f y rest e = absurd cc

-- the text that a reader took from the front, of which R holds
pub record Took (R : List ℕ → Type 0) (bytes rest : List ℕ) : Type 0 where
  pub text : List ℕ
  pub parts : bytes ≡ text ++ rest
  pub spells : R text

abbrev pub Sound : {A : Type 0} → Parse A → (A → List ℕ → Type 0) → Type 0
Sound {A = A} p R = (bytes : List ℕ) (x : A) (rest : List ℕ) → p bytes ≡ Ok (x, rest) → Took (R x) bytes rest

pub joined : (bytes a middle b rest : List ℕ) → bytes ≡ a ++ middle → middle ≡ b ++ rest → bytes ≡ (a ++ b) ++ rest
joined bytes a middle b rest p q = p ∙ ap (λ (t : List ℕ). a ++ t) q ∙ sym (append_assoc a b rest)

pub mapped_takes : {A B : Type 0} (p : Parse A) (R : A → List ℕ → Type 0) (f : A → B) (S : B → List ℕ → Type 0) → Sound p R → ((x : A) (t : List ℕ) → R x t → S (f x) t) → Sound (λ bytes. p bytes >>= with f) S
mapped_takes {B = B} p R f S sound weaker bytes y rest e =
    let m = mapped (p bytes) f y rest e in
    let took = sound bytes m.0 rest m.1 in
    subst (λ (z : B). Took (S z) bytes rest) m.2 (record { text = took.text; parts = took.parts; spells = weaker m.0 took.text took.spells })

-- ---- numbers

found_ok : {A : Type 0} (o : Option A) (y : A) → found o ≡ Ok y → o ≡ Some y
found_ok None y e = absurd cc
found_ok (Some x) y e = ap Some (ok_is x y e)

pub number_takes : Sound varint_at (λ n text. IsNumber text n)
number_takes bytes n rest e =
    let s = number_stands bytes n rest (found_ok (varints.varint_at bytes) (n, rest) e) in
    record { text = s.0; parts = s.1; spells = s.2 }

pub signed_takes : (limit : ℕ) → Sound (signed_at limit) (λ z text. IsSigned limit text z)
unfolding signed_at
signed_takes limit bytes z rest e =
    let n = bind_ok (varint_at bytes) (λ n. cond (ltb n.0 limit) (Ok (unzigzag n.0, n.1)) (Err Outside)) (z, rest) e in
    let g = passed_ok (ltb n.0.0 limit) Outside (unzigzag n.0.0, n.0.1) (z, rest) n.2 in
    let took = number_takes bytes n.0.0 n.0.1 n.1 in
    let after : n.0.1 ≡ rest = ap (λ (q : ℤ × List ℕ). q.1) g.1 in
    record {
      text = took.text;
      parts = took.parts ∙ ap (λ (t : List ℕ). took.text ++ t) after;
      spells = record { n = n.0.0; number = took.spells; fits = ltb-true n.0.0 limit g.0; is = sym (ap (λ (q : ℤ × List ℕ). q.0) g.1) };
    }

byte_takes : (bytes : List ℕ) (b : ℕ) (rest : List ℕ) → byte_at bytes ≡ Ok (b, rest) → bytes ≡ b ∷ rest
byte_takes [] b rest e = absurd cc
byte_takes (c ∷ bytes) b rest e = let same = ok_parts (c, bytes) (b, rest) e in ap (λ (t : List ℕ). c ∷ t) same.1 ∙ ap (λ (d : ℕ). d ∷ rest) same.0

byte_sound : Sound byte_at (λ b text. text ≡ b ∷ [])
byte_sound bytes b rest e = record { text = b ∷ []; parts = byte_takes bytes b rest e; spells = refl }

int8_takes : Sound int8_at (λ z text. (c : ℕ) × (text ≡ c ∷ []) × (z ≡ cast_signed w8 c))
int8_takes [] z rest e = absurd cc
int8_takes (c ∷ bytes) z rest e =
    let same = ok_parts (cast_signed w8 c, bytes) (z, rest) e in
    record { text = c ∷ []; parts = ap (λ (t : List ℕ). c ∷ t) same.1; spells = (c, refl, sym same.0) }

binary_takes : Sound binary_at (λ s text. IsBinary text s)
unfolding binary_at
binary_takes bytes s rest e =
    let n = bind_ok (varint_at bytes) (λ n. bytes_at n.0 n.1) (s, rest) e in
    let g = guard_ok (ltb (length n.0.1) n.0.0) Outside (take n.0.0 n.0.1, drop n.0.0 n.0.1) (s, rest) n.2 in
    let took = number_takes bytes n.0.0 n.0.1 n.1 in
    let front : take n.0.0 n.0.1 ≡ s = ap (λ (q : List ℕ × List ℕ). q.0) g.1 in
    let after : drop n.0.0 n.0.1 ≡ rest = ap (λ (q : List ℕ × List ℕ). q.1) g.1 in
    let long : n.0.0 ≤ length n.0.1 = ltb-false (length n.0.1) n.0.0 g.0 in
    let size : n.0.0 ≡ length s = omega (arith, length-take n.0.0 n.0.1, ap length front) in
    let middle : n.0.1 ≡ s ++ rest = sym (take-append-drop n.0.0 n.0.1) ∙ ap (λ (t : List ℕ). t ++ drop n.0.0 n.0.1) front ∙ ap (λ (t : List ℕ). s ++ t) after in
    record { text = took.text ++ s; parts = joined bytes took.text n.0.1 s rest took.parts middle; spells = (took.text, subst (λ (k : ℕ). IsNumber took.text k) size took.spells, refl) }

bytes_takes : (n : ℕ) → Sound (bytes_at n) (λ s text. (length s ≡ n) × (text ≡ s))
bytes_takes n bytes s rest e =
    let g = guard_ok (ltb (length bytes) n) Outside (take n bytes, drop n bytes) (s, rest) e in
    let front : take n bytes ≡ s = ap (λ (q : List ℕ × List ℕ). q.0) g.1 in
    let after : drop n bytes ≡ rest = ap (λ (q : List ℕ × List ℕ). q.1) g.1 in
    let long : n ≤ length bytes = ltb-false (length bytes) n g.0 in
    let size : length s ≡ n = omega (arith, length-take n bytes, ap length front) in
    record { text = s; parts = sym (take-append-drop n bytes) ∙ ap (λ (t : List ℕ). t ++ drop n bytes) front ∙ ap (λ (t : List ℕ). s ++ t) after; spells = (size, refl) }

-- ---- heads

count_takes : (high : ℕ) → Sound (count_at high) (λ n text. IsCount high text n)
count_takes high bytes n rest e =
    elim (chosen (eqb high 15) (varint_at bytes) (Ok (high, bytes)) (Ok (n, rest)) e) [
      | inl (test, is) ↦
          let took = number_takes bytes n rest is in
          record { text = took.text; parts = took.parts; spells = inl (eqb-true high 15 test, took.spells) }
      | inr (test, is) ↦
          let same = ok_parts (high, bytes) (n, rest) is in
          record { text = []; parts = same.1; spells = inr (eqb-false high 15 test, sym same.0, refl) }
    ]

pub list_head_takes : Sound list_head_at (λ h text. IsListHead text h.0 h.1)
unfolding list_head_at
list_head_takes bytes h rest e =
    let b = bind_ok (byte_at bytes) (λ b. count_at (b.0 / 16) b.1 >>= λ n. Ok ((b.0 % 16, n.0), n.1)) (h, rest) e in
    let n = mapped {B = ℕ × ℕ} (count_at (b.0.0 / 16) b.0.1) (λ n. (b.0.0 % 16, n)) h rest b.2 in
    let front = byte_takes bytes b.0.0 b.0.1 b.1 in
    let took = count_takes (b.0.0 / 16) b.0.1 n.0 rest n.1 in
    subst (λ (z : ℕ × ℕ). Took (λ text. IsListHead text z.0 z.1) bytes rest) n.2 (record {
      text = b.0.0 ∷ took.text;
      parts = front ∙ ap (λ (t : List ℕ). b.0.0 ∷ t) took.parts;
      spells = record { byte = b.0.0; tail = took.text; parts = refl; low = refl; count = took.spells };
    })

-- the head of a map, behind its size
abbrev IsMapHeadBehind : List ℕ → ℕ × ℕ × ℕ → List ℕ → Type 0
IsMapHeadBehind size h text = IsMapHead (size ++ text) h.0 h.1 h.2

map_types_takes : (n : ℕ) (size : List ℕ) → IsNumber size n → Sound (map_types_at n) (IsMapHeadBehind size)
map_types_takes zero size is bytes h rest e =
    let same = ok_parts {A = ℕ × ℕ × ℕ} ((0, 0, 0), bytes) (h, rest) e in
    let whole : IsNumber (size ++ []) 0 = subst (λ (t : List ℕ). IsNumber t 0) (sym (append-nil size)) is in
    subst (λ (z : ℕ × ℕ × ℕ). Took (IsMapHeadBehind size z) bytes rest) same.0 (record { text = []; parts = same.1; spells = (refl, refl, whole) })
map_types_takes (suc n) size is [] h rest e = absurd cc
map_types_takes (suc n) size is (b ∷ bytes) h rest e =
    let k = known_ok {A = (ℕ × ℕ × ℕ) × List ℕ} (kind_of (b / 16)) (λ key_kind. known (kind_of (b % 16)) (λ kind. Ok ((b / 16, b % 16, suc n), bytes))) (h, rest) e in
    let v = known_ok {A = (ℕ × ℕ × ℕ) × List ℕ} (kind_of (b % 16)) (λ kind. Ok ((b / 16, b % 16, suc n), bytes)) (h, rest) k.2 in
    let same = ok_parts {A = ℕ × ℕ × ℕ} ((b / 16, b % 16, suc n), bytes) (h, rest) v.2 in
    subst (λ (z : ℕ × ℕ × ℕ). Took (IsMapHeadBehind size z) (b ∷ bytes) rest) same.0 (record {
      text = b ∷ [];
      parts = ap (λ (t : List ℕ). b ∷ t) same.1;
      spells = record { size = size; byte = b; parts = refl; number_of = is; high = refl; low = refl };
    })

pub map_head_takes : Sound map_head_at (λ h text. IsMapHead text h.0 h.1 h.2)
unfolding map_head_at
map_head_takes bytes h rest e =
    let n = bind_ok (varint_at bytes) (λ n. map_types_at n.0 n.1) (h, rest) e in
    let size = number_takes bytes n.0.0 n.0.1 n.1 in
    let types = map_types_takes n.0.0 size.text size.spells n.0.1 h rest n.2 in
    record { text = size.text ++ types.text; parts = joined bytes size.text n.0.1 types.text rest size.parts types.parts; spells = types.spells }

id_takes : (last : ℤ) (step : ℕ) → Sound (id_at last step) (λ id text. IsId last step text id)
id_takes last step bytes id rest e =
    elim (chosen (eqb step 0) (signed_at (2 ^ 16) bytes) (cond (is_id (last +ℤ pos step)) (Ok (last +ℤ pos step, bytes)) (Err Outside)) (Ok (id, rest)) e) [
      | inl (test, is) ↦
          let took = signed_takes (2 ^ 16) bytes id rest is in
          record { text = took.text; parts = took.parts; spells = inl (eqb-true step 0 test, took.spells) }
      | inr (test, is) ↦
          let g = passed_ok (is_id (last +ℤ pos step)) Outside (last +ℤ pos step, bytes) (id, rest) is in
          let after : bytes ≡ rest = ap (λ (q : ℤ × List ℕ). q.1) g.1 in
          let same : last +ℤ pos step ≡ id = ap (λ (q : ℤ × List ℕ). q.0) g.1 in
          record { text = []; parts = after; spells = inr (eqb-false step 0 test, sym same, subst (λ (z : ℤ). is_id z ≡ true) same g.0, refl) }
    ]

-- the end of a struct, or the head of a field
abbrev pub IsHead : ℤ → Option (ℤ × Kind) → List ℕ → Type 0
IsHead last None text = text ≡ 0 ∷ []
IsHead last (Some h) text = IsFieldHead last text h.0 h.1

pub field_head_takes : (last : ℤ) → Sound (field_head_at last) (IsHead last)
unfolding field_head_at
field_head_takes last [] h rest e = absurd cc
field_head_takes last (b ∷ bytes) h rest e =
    elim (chosen (eqb b 0) (Ok (None, bytes)) (known (kind_of (b % 16)) (λ kind. id_at last (b / 16) bytes >>= λ id. Ok (Some (id.0, kind), id.1))) (Ok (h, rest)) e) [
      | inl (test, is) ↦
          let same = ok_parts {A = Option (ℤ × Kind)} (None, bytes) (h, rest) is in
          let zero_byte : b ≡ 0 = eqb-true b 0 test in
          subst (λ (z : Option (ℤ × Kind)). Took (IsHead last z) (b ∷ bytes) rest) same.0 (record { text = 0 ∷ []; parts = ap (λ (c : ℕ). c ∷ bytes) zero_byte ∙ ap (λ (t : List ℕ). 0 ∷ t) same.1; spells = refl })
      | inr (test, is) ↦
          let k = known_ok (kind_of (b % 16)) (λ kind. id_at last (b / 16) bytes >>= λ id. Ok (Some (id.0, kind), id.1)) (h, rest) is in
          let id = mapped {B = Option (ℤ × Kind)} (id_at last (b / 16) bytes) (λ id. Some (id, k.0)) h rest k.2 in
          let took = id_takes last (b / 16) bytes id.0 rest id.1 in
          subst (λ (z : Option (ℤ × Kind)). Took (IsHead last z) (b ∷ bytes) rest) id.2 (record {
            text = b ∷ took.text;
            parts = ap (λ (t : List ℕ). b ∷ t) took.parts;
            spells = record { byte = b; tail = took.text; parts = refl; known = k.1; is = took.spells };
          })
    ]

-- ---- values

abbrev pub IsList : ℕ → ℕ × Values → List ℕ → Type 0
IsList d x text = (head : List ℕ) × (body : List ℕ) × IsListHead head x.0 (count x.1) × AreElements x.1 x.0 body × (text ≡ head ++ body) × (values_depth x.1 ≤ d)

abbrev pub IsMap : ℕ → ℕ × ℕ × Pairs → List ℕ → Type 0
IsMap d x text = (head : List ℕ) × (body : List ℕ) × IsMapHead head x.0 x.1 (pair_count x.2) × ArePairs x.2 x.0 x.1 body × (text ≡ head ++ body) × (pairs_depth x.2 ≤ d)

abbrev pub IsStruct : ℕ → Fields → List ℕ → Type 0
IsStruct d fs text = AreFields fs (pos 0) text × (fields_depth fs ≤ d)

abbrev pub IsValue : ℕ → Kind → Value → List ℕ → Type 0
IsValue d kind v text = IsElement v kind text × (depth v ≤ d)

pub element_takes : (d : ℕ) (lists : Parse (ℕ × Values)) (maps : Parse (ℕ × ℕ × Pairs)) (structs : Parse Fields) → Sound lists (IsList d) → Sound maps (IsMap d) → Sound structs (IsStruct d) → (kind : Kind) → Sound (element_with lists maps structs kind) (IsValue (suc d) kind)
element_takes d lists maps structs sl sm ss kinds.True = mapped_takes byte_at (λ b t. t ≡ b ∷ []) (λ b. truth (eqb b 1)) (IsValue (suc d) kinds.True) byte_sound (λ b t r. ((inl refl, b, r, refl), omega arith))
element_takes d lists maps structs sl sm ss kinds.False = mapped_takes byte_at (λ b t. t ≡ b ∷ []) (λ b. truth (eqb b 1)) (IsValue (suc d) kinds.False) byte_sound (λ b t r. ((inr refl, b, r, refl), omega arith))
element_takes d lists maps structs sl sm ss kinds.I8 = mapped_takes int8_at (λ z t. (c : ℕ) × (t ≡ c ∷ []) × (z ≡ cast_signed w8 c)) int8 (IsValue (suc d) kinds.I8) int8_takes (λ z t r. ((refl, r.0, r.1, r.2), omega arith))
element_takes d lists maps structs sl sm ss kinds.I16 = mapped_takes (signed_at (2 ^ 16)) (λ z t. IsSigned (2 ^ 16) t z) int16 (IsValue (suc d) kinds.I16) (signed_takes (2 ^ 16)) (λ z t r. ((refl, r), omega arith))
element_takes d lists maps structs sl sm ss kinds.I32 = mapped_takes (signed_at (2 ^ 32)) (λ z t. IsSigned (2 ^ 32) t z) int32 (IsValue (suc d) kinds.I32) (signed_takes (2 ^ 32)) (λ z t r. ((refl, r), omega arith))
element_takes d lists maps structs sl sm ss kinds.I64 = mapped_takes (signed_at (2 ^ 64)) (λ z t. IsSigned (2 ^ 64) t z) int64 (IsValue (suc d) kinds.I64) (signed_takes (2 ^ 64)) (λ z t r. ((refl, r), omega arith))
element_takes d lists maps structs sl sm ss kinds.Double = mapped_takes (bytes_at 8) (λ s t. (length s ≡ 8) × (t ≡ s)) double (IsValue (suc d) kinds.Double) (bytes_takes 8) (λ s t r. ((refl, r.0, r.1), omega arith))
element_takes d lists maps structs sl sm ss kinds.Binary = mapped_takes binary_at (λ s t. IsBinary t s) binary (IsValue (suc d) kinds.Binary) binary_takes (λ s t r. ((refl, r), omega arith))
element_takes d lists maps structs sl sm ss kinds.List = mapped_takes lists (IsList d) (λ x. list x.0 x.1) (IsValue (suc d) kinds.List) sl (λ x t r. ((refl, r.0, r.1, r.2, r.3, r.4), omega (arith, r.5)))
element_takes d lists maps structs sl sm ss kinds.Set = mapped_takes lists (IsList d) (λ x. set x.0 x.1) (IsValue (suc d) kinds.Set) sl (λ x t r. ((refl, r.0, r.1, r.2, r.3, r.4), omega (arith, r.5)))
element_takes d lists maps structs sl sm ss kinds.Map = mapped_takes maps (IsMap d) (λ x. map x.0 x.1 x.2) (IsValue (suc d) kinds.Map) sm (λ x t r. ((refl, r.0, r.1, r.2, r.3, r.4), omega (arith, r.5)))
element_takes d lists maps structs sl sm ss kinds.Struct = mapped_takes structs (IsStruct d) struct (IsValue (suc d) kinds.Struct) ss (λ fs t r. ((refl, r.0), omega (arith, r.1)))

-- a part of a list or map
abbrev pub IsPart : ℕ → ℕ → Value → List ℕ → Type 0
IsPart d number v text = IsNumbered number (IsElement v) text × (depth v ≤ d)

pub part_takes : (d : ℕ) (one : Kind → Parse Value) → ((kind : Kind) → Sound (one kind) (IsValue d kind)) → (number : ℕ) → Sound (part_with one number) (IsPart d number)
part_takes d one sound number bytes v rest e =
    let k = known_ok (kind_of number) (λ kind. one kind bytes) (v, rest) e in
    let took = sound k.0 bytes v rest k.2 in
    record { text = took.text; parts = took.parts; spells = ((k.0, k.1, took.spells.0), took.spells.1) }

values_takes : (d number : ℕ) (one : Parse Value) → Sound one (IsPart d number) → (n : ℕ) → Sound (values_at one n) (λ vs text. AreElements vs number text × (count vs ≡ n) × (values_depth vs ≤ d))
unfolding values_at
values_takes d number one sound zero bytes vs rest e =
    let same = ok_parts (no_values, bytes) (vs, rest) e in
    subst (λ (ws : Values). Took (λ text. AreElements ws number text × (count ws ≡ 0) × (values_depth ws ≤ d)) bytes rest) same.0 (record { text = []; parts = same.1; spells = (refl, refl, omega arith) })
values_takes d number one sound (suc n) bytes vs rest e =
    let a = bind_ok (one bytes) (λ first. values_at one n first.1 >>= λ others. Ok (value first.0 others.0, others.1)) (vs, rest) e in
    let b = mapped {B = Values} (values_at one n a.0.1) (value a.0.0) vs rest a.2 in
    let first = sound bytes a.0.0 a.0.1 a.1 in
    let others = values_takes d number one sound n a.0.1 b.0 rest b.1 in
    subst (λ (ws : Values). Took (λ text. AreElements ws number text × (count ws ≡ suc n) × (values_depth ws ≤ d)) bytes rest) b.2 (record {
      text = first.text ++ others.text;
      parts = joined bytes first.text a.0.1 others.text rest first.parts others.parts;
      spells = ((first.text, others.text, first.spells.0, others.spells.0, refl), ap suc others.spells.1, omega (arith, first.spells.1, others.spells.2));
    })

-- a key and its value
abbrev pub IsPair : ℕ → ℕ → ℕ → Value × Value → List ℕ → Type 0
IsPair d key_number number p text = (key : List ℕ) × (item : List ℕ) × IsPart d key_number p.0 key × IsPart d number p.1 item × (text ≡ key ++ item)

pub pair_takes : (d key_number number : ℕ) (keys items : Parse Value) → Sound keys (IsPart d key_number) → Sound items (IsPart d number) → Sound (pair_with keys items) (IsPair d key_number number)
unfolding pair_with
pair_takes d key_number number keys items sk si bytes p rest e =
    let a = bind_ok (keys bytes) (λ key. items key.1 >>= λ item. Ok ((key.0, item.0), item.1)) (p, rest) e in
    let b = mapped {B = Value × Value} (items a.0.1) (λ item. (a.0.0, item)) p rest a.2 in
    let key = sk bytes a.0.0 a.0.1 a.1 in
    let item = si a.0.1 b.0 rest b.1 in
    subst (λ (q : Value × Value). Took (IsPair d key_number number q) bytes rest) b.2 (record {
      text = key.text ++ item.text;
      parts = joined bytes key.text a.0.1 item.text rest key.parts item.parts;
      spells = (key.text, item.text, key.spells, item.spells, refl);
    })

abbrev pub ArePaired : ℕ → ℕ → ℕ → ℕ → Pairs → List ℕ → Type 0
ArePaired d key_number number n ps text = ArePairs ps key_number number text × (pair_count ps ≡ n) × (pairs_depth ps ≤ d)

pairs_takes : (d key_number number : ℕ) (one : Parse (Value × Value)) → Sound one (IsPair d key_number number) → (n : ℕ) → Sound (pairs_at one n) (ArePaired d key_number number n)
unfolding pairs_at
pairs_takes d key_number number one sound zero bytes ps rest e =
    let same = ok_parts (no_pairs, bytes) (ps, rest) e in
    subst (λ (qs : Pairs). Took (ArePaired d key_number number 0 qs) bytes rest) same.0 (record { text = []; parts = same.1; spells = (refl, refl, omega arith) })
pairs_takes d key_number number one sound (suc n) bytes ps rest e =
    let a = bind_ok (one bytes) (λ first. pairs_at one n first.1 >>= λ others. Ok (pair first.0.0 first.0.1 others.0, others.1)) (ps, rest) e in
    let b = mapped {B = Pairs} (pairs_at one n a.0.1) (pair a.0.0.0 a.0.0.1) ps rest a.2 in
    let first = sound bytes a.0.0 a.0.1 a.1 in
    let others = pairs_takes d key_number number one sound n a.0.1 b.0 rest b.1 in
    let key = first.spells.0 in
    let item = first.spells.1 in
    let regrouped : first.text ++ others.text ≡ key ++ (item ++ others.text) = ap (λ (t : List ℕ). t ++ others.text) first.spells.4 ∙ append_assoc key item others.text in
    subst (λ (qs : Pairs). Took (ArePaired d key_number number (suc n) qs) bytes rest) b.2 (record {
      text = first.text ++ others.text;
      parts = joined bytes first.text a.0.1 others.text rest first.parts others.parts;
      spells = ((key, item, others.text, first.spells.2.0, first.spells.3.0, others.spells.0, regrouped), ap suc others.spells.1, omega (arith, first.spells.2.1, first.spells.3.1, others.spells.2));
    })

-- a value in a field
abbrev pub IsInField : ℕ → Kind → Value → List ℕ → Type 0
IsInField d kind v text = InField v (IsElement v) kind text × (depth v ≤ d)

abbrev IsTruthKind : Kind → Type 0
IsTruthKind kind = (kind ≡ kinds.True) ⊎ (kind ≡ kinds.False)

in_field : (v : Value) (kind : Kind) (text : List ℕ) → (IsTruthKind kind → ⊥) → IsElement v kind text → InField v (IsElement v) kind text
in_field (truth b) kind text t h = absurd (t h.0)
in_field (int8 z) kind text t h = h
in_field (int16 z) kind text t h = h
in_field (int32 z) kind text t h = h
in_field (int64 z) kind text t h = h
in_field (double s) kind text t h = h
in_field (binary s) kind text t h = h
in_field (list number vs) kind text t h = h
in_field (set number vs) kind text t h = h
in_field (map key_number number ps) kind text t h = h
in_field (struct fs) kind text t h = h

as_field : (d : ℕ) (kind : Kind) (one : Parse Value) → (IsTruthKind kind → ⊥) → Sound one (IsValue d kind) → Sound one (IsInField d kind)
as_field d kind one t sound bytes v rest e =
    let took = sound bytes v rest e in
    record { text = took.text; parts = took.parts; spells = (in_field v kind took.text t took.spells.0, took.spells.1) }

other_kind : (kind k : Kind) → IsTruthKind kind → kind ≡ k → (IsTruthKind k → ⊥) → ⊥
other_kind kind k t e other = other (subst IsTruthKind e t)

-- an element of a truth value's kind is a truth value, and takes a byte
is_truth : (v : Value) (c : ℕ) (kind : Kind) (text bytes rest : List ℕ) → IsTruthKind kind → IsElement v kind text → c ∷ bytes ≡ text ++ rest → (v ≡ truth (eqb c 1)) × (bytes ≡ rest)
is_truth (truth b) c kind text bytes rest t h e =
    let whole : c ∷ bytes ≡ h.1 ∷ rest = e ∙ ap (λ (l : List ℕ). l ++ rest) h.2 in
    let same : c ≡ h.1 = cc in
    (ap truth (h.3 ∙ ap (λ (j : ℕ). eqb j 1) (sym same)), cc)
is_truth (int8 z) c kind text bytes rest t h e = absurd (other_kind kind kinds.I8 t h.0 (λ o. elim o [ inl w ↦ cc | inr w ↦ cc ]))
is_truth (int16 z) c kind text bytes rest t h e = absurd (other_kind kind kinds.I16 t h.0 (λ o. elim o [ inl w ↦ cc | inr w ↦ cc ]))
is_truth (int32 z) c kind text bytes rest t h e = absurd (other_kind kind kinds.I32 t h.0 (λ o. elim o [ inl w ↦ cc | inr w ↦ cc ]))
is_truth (int64 z) c kind text bytes rest t h e = absurd (other_kind kind kinds.I64 t h.0 (λ o. elim o [ inl w ↦ cc | inr w ↦ cc ]))
is_truth (double s) c kind text bytes rest t h e = absurd (other_kind kind kinds.Double t h.0 (λ o. elim o [ inl w ↦ cc | inr w ↦ cc ]))
is_truth (binary s) c kind text bytes rest t h e = absurd (other_kind kind kinds.Binary t h.0 (λ o. elim o [ inl w ↦ cc | inr w ↦ cc ]))
is_truth (list number vs) c kind text bytes rest t h e = absurd (other_kind kind kinds.List t h.0 (λ o. elim o [ inl w ↦ cc | inr w ↦ cc ]))
is_truth (set number vs) c kind text bytes rest t h e = absurd (other_kind kind kinds.Set t h.0 (λ o. elim o [ inl w ↦ cc | inr w ↦ cc ]))
is_truth (map key_number number ps) c kind text bytes rest t h e = absurd (other_kind kind kinds.Map t h.0 (λ o. elim o [ inl w ↦ cc | inr w ↦ cc ]))
is_truth (struct fs) c kind text bytes rest t h e = absurd (other_kind kind kinds.Struct t h.0 (λ o. elim o [ inl w ↦ cc | inr w ↦ cc ]))

truth_field : (d c : ℕ) (b : Bool) (kind : Kind) (one : Parse Value) → IsTruthKind kind → eqb c 1 ≡ b → kind ≡ cond b kinds.True kinds.False → Sound one (IsValue d kind) → Sound (λ bytes. one (c ∷ bytes)) (IsInField d kind)
truth_field d c b kind one t is k sound bytes v rest e =
    let took = sound (c ∷ bytes) v rest e in
    let seen = is_truth v c kind took.text bytes rest t took.spells.0 took.parts in
    let here : v ≡ truth b = seen.0 ∙ ap truth is in
    let small : depth (truth b) ≤ d = subst (λ (w : Value). depth w ≤ d) here took.spells.1 in
    subst (λ (w : Value). Took (IsInField d kind w) bytes rest) (sym here) (record { text = []; parts = seen.1; spells = ((k, refl), small) })

pub field_takes : (d : ℕ) (one : Kind → Parse Value) → ((kind : Kind) → Sound (one kind) (IsValue d kind)) → (kind : Kind) → Sound (field_with one kind) (IsInField d kind)
field_takes d one sound kinds.True = truth_field d 1 true kinds.True (one kinds.True) (inl refl) refl refl (sound kinds.True)
field_takes d one sound kinds.False = truth_field d 2 false kinds.False (one kinds.False) (inr refl) refl refl (sound kinds.False)
field_takes d one sound kinds.I8 = as_field d kinds.I8 (one kinds.I8) (λ o. elim o [ inl w ↦ cc | inr w ↦ cc ]) (sound kinds.I8)
field_takes d one sound kinds.I16 = as_field d kinds.I16 (one kinds.I16) (λ o. elim o [ inl w ↦ cc | inr w ↦ cc ]) (sound kinds.I16)
field_takes d one sound kinds.I32 = as_field d kinds.I32 (one kinds.I32) (λ o. elim o [ inl w ↦ cc | inr w ↦ cc ]) (sound kinds.I32)
field_takes d one sound kinds.I64 = as_field d kinds.I64 (one kinds.I64) (λ o. elim o [ inl w ↦ cc | inr w ↦ cc ]) (sound kinds.I64)
field_takes d one sound kinds.Double = as_field d kinds.Double (one kinds.Double) (λ o. elim o [ inl w ↦ cc | inr w ↦ cc ]) (sound kinds.Double)
field_takes d one sound kinds.Binary = as_field d kinds.Binary (one kinds.Binary) (λ o. elim o [ inl w ↦ cc | inr w ↦ cc ]) (sound kinds.Binary)
field_takes d one sound kinds.List = as_field d kinds.List (one kinds.List) (λ o. elim o [ inl w ↦ cc | inr w ↦ cc ]) (sound kinds.List)
field_takes d one sound kinds.Set = as_field d kinds.Set (one kinds.Set) (λ o. elim o [ inl w ↦ cc | inr w ↦ cc ]) (sound kinds.Set)
field_takes d one sound kinds.Map = as_field d kinds.Map (one kinds.Map) (λ o. elim o [ inl w ↦ cc | inr w ↦ cc ]) (sound kinds.Map)
field_takes d one sound kinds.Struct = as_field d kinds.Struct (one kinds.Struct) (λ o. elim o [ inl w ↦ cc | inr w ↦ cc ]) (sound kinds.Struct)

abbrev pub AreTaken : ℕ → ℤ → Fields → List ℕ → Type 0
AreTaken d last fs text = AreFields fs last text × (fields_depth fs ≤ d)

step_takes : (d : ℕ) (one : Kind → Parse Value) → ((kind : Kind) → Sound (one kind) (IsInField d kind)) → (more : ℤ → Parse Fields) → ((id : ℤ) → Sound (more id) (AreTaken d id)) → (last : ℤ) (bytes : List ℕ) (h : Option (ℤ × Kind)) (middle : List ℕ) (fs : Fields) (rest : List ℕ)
    → Took (IsHead last h) bytes middle → fields_step one more h middle ≡ Ok (fs, rest) → Took (AreTaken d last fs) bytes rest
step_takes d one sound more sounds last bytes None middle fs rest head e =
    let same = ok_parts (no_fields, middle) (fs, rest) e in
    subst (λ (gs : Fields). Took (AreTaken d last gs) bytes rest) same.0 (record { text = head.text; parts = head.parts ∙ ap (λ (t : List ℕ). head.text ++ t) same.1; spells = (head.spells, omega arith) })
step_takes d one sound more sounds last bytes (Some h) middle fs rest head e =
    let a = bind_ok (one h.1 middle) (λ first. more h.0 first.1 >>= λ others. Ok (field h.0 first.0 others.0, others.1)) (fs, rest) e in
    let b = mapped {B = Fields} (more h.0 a.0.1) (field h.0 a.0.0) fs rest a.2 in
    let first = sound h.1 middle a.0.0 a.0.1 a.1 in
    let others = sounds h.0 a.0.1 b.0 rest b.1 in
    let behind = joined middle first.text a.0.1 others.text rest first.parts others.parts in
    subst (λ (gs : Fields). Took (AreTaken d last gs) bytes rest) b.2 (record {
      text = head.text ++ (first.text ++ others.text);
      parts = joined bytes head.text middle (first.text ++ others.text) rest head.parts behind;
      spells = ((h.1, head.text, first.text, others.text, head.spells, first.spells.0, others.spells.0, refl), omega (arith, first.spells.1, others.spells.1));
    })

fields_takes : (d : ℕ) (one : Kind → Parse Value) → ((kind : Kind) → Sound (one kind) (IsInField d kind)) → (n : ℕ) (last : ℤ) → Sound (fields_at one n last) (AreTaken d last)
unfolding fields_at
fields_takes d one sound zero last bytes fs rest e = absurd cc
fields_takes d one sound (suc n) last bytes fs rest e =
    let h = bind_ok (field_head_at last bytes) (λ head. fields_step one (fields_at one n) head.0 head.1) (fs, rest) e in
    step_takes d one sound (fields_at one n) (fields_takes d one sound n) last bytes h.0.0 h.0.1 fs rest (field_head_takes last bytes h.0.0 h.0.1 h.1) h.2

-- ---- levels

list_with_takes : (d : ℕ) (one : Kind → Parse Value) → ((kind : Kind) → Sound (one kind) (IsValue d kind)) → Sound (list_with one) (IsList d)
unfolding list_with
list_with_takes d one sound bytes x rest e =
    let h = bind_ok (list_head_at bytes) (λ head. values_at (part_with one head.0.0) head.0.1 head.1 >>= λ vs. Ok ((head.0.0, vs.0), vs.1)) (x, rest) e in
    let number = h.0.0.0 in
    let vs = mapped {B = ℕ × Values} (values_at (part_with one number) h.0.0.1 h.0.1) (λ vs. (number, vs)) x rest h.2 in
    let head = list_head_takes bytes h.0.0 h.0.1 h.1 in
    let body = values_takes d number (part_with one number) (part_takes d one sound number) h.0.0.1 h.0.1 vs.0 rest vs.1 in
    subst (λ (y : ℕ × Values). Took (IsList d y) bytes rest) vs.2 (record {
      text = head.text ++ body.text;
      parts = joined bytes head.text h.0.1 body.text rest head.parts body.parts;
      spells = (head.text, body.text, subst (λ (k : ℕ). IsListHead head.text number k) (sym body.spells.1) head.spells, body.spells.0, refl, body.spells.2);
    })

map_with_takes : (d : ℕ) (one : Kind → Parse Value) → ((kind : Kind) → Sound (one kind) (IsValue d kind)) → Sound (map_with one) (IsMap d)
unfolding map_with
map_with_takes d one sound bytes x rest e =
    let h = bind_ok (map_head_at bytes) (λ head. pairs_at (pair_with (part_with one head.0.0) (part_with one head.0.1)) head.0.2 head.1 >>= λ ps. Ok ((head.0.0, head.0.1, ps.0), ps.1)) (x, rest) e in
    let key_number = h.0.0.0 in
    let number = h.0.0.1 in
    let keys = part_with one key_number in
    let items = part_with one number in
    let ps = mapped {B = ℕ × ℕ × Pairs} (pairs_at (pair_with keys items) h.0.0.2 h.0.1) (λ ps. (key_number, number, ps)) x rest h.2 in
    let head = map_head_takes bytes h.0.0 h.0.1 h.1 in
    let both = pair_takes d key_number number keys items (part_takes d one sound key_number) (part_takes d one sound number) in
    let body = pairs_takes d key_number number (pair_with keys items) both h.0.0.2 h.0.1 ps.0 rest ps.1 in
    subst (λ (y : ℕ × ℕ × Pairs). Took (IsMap d y) bytes rest) ps.2 (record {
      text = head.text ++ body.text;
      parts = joined bytes head.text h.0.1 body.text rest head.parts body.parts;
      spells = (head.text, body.text, subst (λ (k : ℕ). IsMapHead head.text key_number number k) (sym body.spells.1) head.spells, body.spells.0, refl, body.spells.2);
    })

struct_with_takes : (d : ℕ) (one : Kind → Parse Value) → ((kind : Kind) → Sound (one kind) (IsValue d kind)) → Sound (struct_with one) (IsStruct d)
unfolding struct_with
struct_with_takes d one sound bytes fs rest e =
    let took = fields_takes d (field_with one) (field_takes d one sound) (length bytes) (pos 0) bytes fs rest e in
    record { text = took.text; parts = took.parts; spells = took.spells }

-- what is read as a value of a kind is one
pub value_takes : (d : ℕ) (kind : Kind) → Sound (value_at d kind) (IsValue d kind)
unfolding value_at
value_takes zero kind bytes v rest e = absurd cc
value_takes (suc d) kind bytes v rest e =
    let one = value_takes d in
    element_takes d (list_at d) (map_at d) (struct_at d) (list_with_takes d (value_at d) one) (map_with_takes d (value_at d) one) (struct_with_takes d (value_at d) one) kind bytes v rest e

-- what is read as a struct is one
pub struct_takes : (d : ℕ) → Sound (struct_at d) (IsStruct d)
struct_takes d = struct_with_takes d (value_at d) (value_takes d)
