-- A value is too deep exactly where it nests past the number.
use Rattle.std.proofs.Common.{◌≡◌, ◌⊎◌, ℕ, zero, suc, ℤ, pos, ◌/◌, ◌%◌, ◌^◌, ◌<◌, ◌≤◌, ◌+ℤ◌, Bool, true, false, cond, eqb, ltb, List, [], ◌∷◌, ◌++◌, length, take, drop, Option, Some, None, Result, Ok, Err, refl, sym, ap, subst, ◌∙◌, append_assoc, inl, inr, arith}
use Rattle.std.proofs.lemmas.List.{length-append}
use Rattle.pq_numbers.specs.Varint as varints
use Rattle.pq_numbers.specs.Zigzag.{unzigzag}
use Rattle.pq_thrift.specs.declared.fault.Fault.{Fault}
use Rattle.pq_thrift.specs.declared.fault.Fault.TheVariants.{Outside, Deep}
use Rattle.pq_thrift.specs.declared.kind.Kind.{Kind}
use Rattle.pq_thrift.specs.declared.kind.Kind.TheVariants as kinds
use Rattle.pq_thrift.specs.Kinds.{kind_of}
use Rattle.pq_thrift.specs.Parse.{◌>>=◌, Parse}
use Rattle.pq_thrift.specs.Numbers.{byte_at, found, varint_at, signed_at, int8_at, bytes_at, binary_at}
use Rattle.pq_thrift.specs.Value.{Value, truth, int8, int16, int32, int64, double, binary, list, set, map, struct, Values, no_values, value, Pairs, no_pairs, pair, Fields, no_fields, field}
use Rattle.pq_thrift.specs.Reading.{known, count_at, list_head_at, map_types_at, map_head_at, is_id, id_at, field_head_at, field_with, part_with, values_at, pair_with, pairs_at, fields_step, fields_at, list_with, map_with, struct_with, value_at, list_at, map_at, struct_at, element_at}
use Rattle.pq_thrift.specs.Grammar.{IsMapHead, IsFieldHead, AreElements, ArePairs, count, pair_count, values_depth, pairs_depth, fields_depth}
use Rattle.pq_thrift.specs.Nesting.{AreBefore, InList, IsNext, InMap, InStruct, NestsPast}
use Rattle.pq_thrift.proofs.Takes.{with, bind_ok, known_ok, ok_parts, Sound, IsPart, IsPair, IsInField, list_head_takes, map_head_takes, field_head_takes, part_takes, pair_takes, field_takes, value_takes}
use Rattle.pq_thrift.proofs.Again.{list_head_again, map_head_some, field_head_again, value_again, part_again, field_again, field_sizes}

-- ---- what is never too deep

abbrev Shallow : {A : Type 0} → Result A Fault → Type 0
Shallow (Ok x) = Unit {0}
Shallow (Err Outside) = Unit {0}
Shallow (Err Deep) = ⊥

shallow_not : {A : Type 0} (r : Result A Fault) → Shallow r → r ≡ Err Deep → ⊥
shallow_not (Ok x) s e = cc
shallow_not (Err Outside) s e = cc
shallow_not (Err Deep) s e = s

bind_shallow : {A B : Type 0} (r : Result A Fault) (f : A → Result B Fault) → Shallow r → ((x : A) → Shallow (f x)) → Shallow (r >>= f)
bind_shallow (Ok x) f s t = t x
bind_shallow (Err Outside) f s t = tt
bind_shallow (Err Deep) f s t = s

cond_shallow : {A : Type 0} (b : Bool) (r t : Result A Fault) → Shallow r → Shallow t → Shallow (cond b r t)
cond_shallow true r t p q = p
cond_shallow false r t p q = q

known_shallow : {A : Type 0} (o : Option Kind) (f : Kind → Result A Fault) → ((k : Kind) → Shallow (f k)) → Shallow (known o f)
known_shallow None f s = tt
known_shallow (Some k) f s = s k

byte_shallow : (bytes : List ℕ) → Shallow (byte_at bytes)
byte_shallow [] = tt
byte_shallow (b ∷ bytes) = tt

varint_shallow : (bytes : List ℕ) → Shallow (varint_at bytes)
varint_shallow bytes = found_shallow (varints.varint_at bytes) where
  found_shallow : (o : Option (ℕ × List ℕ)) → Shallow (found o)
  found_shallow None = tt
  found_shallow (Some x) = tt

signed_shallow : (limit : ℕ) (bytes : List ℕ) → Shallow (signed_at limit bytes)
unfolding signed_at
signed_shallow limit bytes = bind_shallow (varint_at bytes) (λ n. cond (ltb n.0 limit) (Ok (unzigzag n.0, n.1)) (Err Outside)) (varint_shallow bytes) (λ n. cond_shallow (ltb n.0 limit) (Ok (unzigzag n.0, n.1)) (Err Outside) tt tt)

int8_shallow : (bytes : List ℕ) → Shallow (int8_at bytes)
int8_shallow [] = tt
int8_shallow (b ∷ bytes) = tt

binary_shallow : (bytes : List ℕ) → Shallow (binary_at bytes)
unfolding binary_at
binary_shallow bytes = bind_shallow (varint_at bytes) (λ n. bytes_at n.0 n.1) (varint_shallow bytes) (λ n. cond_shallow (ltb (length n.1) n.0) (Err Outside) (Ok (take n.0 n.1, drop n.0 n.1)) tt tt)

bytes_shallow : (n : ℕ) (bytes : List ℕ) → Shallow (bytes_at n bytes)
bytes_shallow n bytes = cond_shallow (ltb (length bytes) n) (Err Outside) (Ok (take n bytes, drop n bytes)) tt tt

count_shallow : (high : ℕ) (bytes : List ℕ) → Shallow (count_at high bytes)
count_shallow high bytes = cond_shallow (eqb high 15) (varint_at bytes) (Ok (high, bytes)) (varint_shallow bytes) tt

list_head_shallow : (bytes : List ℕ) → Shallow (list_head_at bytes)
unfolding list_head_at
list_head_shallow [] = tt
list_head_shallow (b ∷ bytes) = bind_shallow {B = (ℕ × ℕ) × List ℕ} (count_at (b / 16) bytes) (λ n. Ok ((b % 16, n.0), n.1)) (count_shallow (b / 16) bytes) (λ n. tt)

map_types_shallow : (n : ℕ) (bytes : List ℕ) → Shallow (map_types_at n bytes)
map_types_shallow zero bytes = tt
map_types_shallow (suc n) [] = tt
map_types_shallow (suc n) (b ∷ bytes) =
    known_shallow {A = (ℕ × ℕ × ℕ) × List ℕ} (kind_of (b / 16)) (λ key_kind. known (kind_of (b % 16)) (λ kind. Ok ((b / 16, b % 16, suc n), bytes)))
    (λ key_kind. known_shallow {A = (ℕ × ℕ × ℕ) × List ℕ} (kind_of (b % 16)) (λ kind. Ok ((b / 16, b % 16, suc n), bytes)) (λ kind. tt))

map_head_shallow : (bytes : List ℕ) → Shallow (map_head_at bytes)
unfolding map_head_at
map_head_shallow bytes = bind_shallow (varint_at bytes) (λ n. map_types_at n.0 n.1) (varint_shallow bytes) (λ n. map_types_shallow n.0 n.1)

id_shallow : (last : ℤ) (step : ℕ) (bytes : List ℕ) → Shallow (id_at last step bytes)
id_shallow last step bytes = cond_shallow (eqb step 0) (signed_at (2 ^ 16) bytes) (cond (is_id (last +ℤ pos step)) (Ok (last +ℤ pos step, bytes)) (Err Outside)) (signed_shallow (2 ^ 16) bytes) (cond_shallow (is_id (last +ℤ pos step)) (Ok (last +ℤ pos step, bytes)) (Err Outside) tt tt)

field_head_shallow : (last : ℤ) (bytes : List ℕ) → Shallow (field_head_at last bytes)
unfolding field_head_at
field_head_shallow last [] = tt
field_head_shallow last (b ∷ bytes) =
    cond_shallow {A = Option (ℤ × Kind) × List ℕ} (eqb b 0) (Ok (None, bytes)) (known (kind_of (b % 16)) (λ kind. id_at last (b / 16) bytes >>= λ id. Ok (Some (id.0, kind), id.1))) tt
    (known_shallow {A = Option (ℤ × Kind) × List ℕ} (kind_of (b % 16)) (λ kind. id_at last (b / 16) bytes >>= λ id. Ok (Some (id.0, kind), id.1)) (λ kind. bind_shallow {B = Option (ℤ × Kind) × List ℕ} (id_at last (b / 16) bytes) (λ id. Ok (Some (id.0, kind), id.1)) (id_shallow last (b / 16) bytes) (λ id. tt)))

-- ---- too deep, so it nests past

bind_deep : {A B : Type 0} (r : Result A Fault) (f : A → Result B Fault) → (r >>= f) ≡ Err Deep → (r ≡ Err Deep) ⊎ ((x : A) × (r ≡ Ok x) × (f x ≡ Err Deep))
bind_deep (Ok x) f e = inr (x, refl, e)
bind_deep (Err d) f e = let same : d ≡ Deep = cc in inl (ap Err same)

with_deep : {A B : Type 0} (r : Result (A × List ℕ) Fault) (f : A → B) → (r >>= with f) ≡ Err Deep → r ≡ Err Deep
with_deep (Ok x) f e = absurd cc
with_deep (Err d) f e = let same : d ≡ Deep = cc in ap Err same

flat_deep : {A : Type 0} (r : Result (A × List ℕ) Fault) (f : A → Value) (P : Type 0) → Shallow r → (r >>= with f) ≡ Err Deep → P
flat_deep r f P s e = absurd (shallow_not r s (with_deep r f e))

some_kind : (k j : Kind) → Some k ≡ Some j → k ≡ j
some_kind k j e = cc

known_deep : (number : ℕ) (one : Kind → Parse Value) (bytes : List ℕ) → part_with one number bytes ≡ Err Deep → (kind : Kind) × (kind_of number ≡ Some kind) × (one kind bytes ≡ Err Deep)
known_deep number one bytes e = within (kind_of number) refl e where
  within : (o : Option Kind) → kind_of number ≡ o → known o (λ kind. one kind bytes) ≡ Err Deep → (kind : Kind) × (kind_of number ≡ Some kind) × (one kind bytes ≡ Err Deep)
  within None is e = absurd cc
  within (Some kind) is e = (kind, is, e)

pub record ValueFound (d number : ℕ) (one : Parse Value) (n : ℕ) (bytes : List ℕ) : Type 0 where
  pub before : Values
  pub front : List ℕ
  pub behind : List ℕ
  pub spells : AreElements before number front
  pub fewer : count before < n
  pub shallow : values_depth before ≤ d
  pub parts : bytes ≡ front ++ behind
  pub deep : one behind ≡ Err Deep

values_deep : (d number : ℕ) (one : Parse Value) → Sound one (IsPart d number) → (n : ℕ) (bytes : List ℕ) → values_at one n bytes ≡ Err Deep → ValueFound d number one n bytes
unfolding values_at
values_deep d number one sound zero bytes e = absurd cc
values_deep d number one sound (suc n) bytes e =
    elim (bind_deep (one bytes) (λ first. values_at one n first.1 >>= λ others. Ok (value first.0 others.0, others.1)) e) [
      | inl here ↦ record { before = no_values; front = []; behind = bytes; spells = refl; fewer = omega arith; shallow = omega arith; parts = refl; deep = here }
      | inr (x, is, later) ↦
          let took = sound bytes x.0 x.1 is in
          let more = values_deep d number one sound n x.1 (with_deep {B = Values} (values_at one n x.1) (value x.0) later) in
          record {
            before = value x.0 more.before;
            front = took.text ++ more.front;
            behind = more.behind;
            spells = (took.text, more.front, took.spells.0, more.spells, refl);
            fewer = omega (arith, more.fewer);
            shallow = omega (arith, took.spells.1, more.shallow);
            parts = took.parts ∙ ap (λ (t : List ℕ). took.text ++ t) more.parts ∙ sym (append_assoc took.text more.front more.behind);
            deep = more.deep;
          }
    ]

pub record PairFound (d key_number number : ℕ) (one : Parse (Value × Value)) (n : ℕ) (bytes : List ℕ) : Type 0 where
  pub before : Pairs
  pub front : List ℕ
  pub middle : List ℕ
  pub spells : ArePairs before key_number number front
  pub fewer : pair_count before < n
  pub shallow : pairs_depth before ≤ d
  pub parts : bytes ≡ front ++ middle
  pub deep : one middle ≡ Err Deep

pairs_deep : (d key_number number : ℕ) (one : Parse (Value × Value)) → Sound one (IsPair d key_number number) → (n : ℕ) (bytes : List ℕ) → pairs_at one n bytes ≡ Err Deep → PairFound d key_number number one n bytes
unfolding pairs_at
pairs_deep d key_number number one sound zero bytes e = absurd cc
pairs_deep d key_number number one sound (suc n) bytes e =
    elim (bind_deep (one bytes) (λ first. pairs_at one n first.1 >>= λ others. Ok (pair first.0.0 first.0.1 others.0, others.1)) e) [
      | inl here ↦ record { before = no_pairs; front = []; middle = bytes; spells = refl; fewer = omega arith; shallow = omega arith; parts = refl; deep = here }
      | inr (x, is, later) ↦
          let took = sound bytes x.0 x.1 is in
          let more = pairs_deep d key_number number one sound n x.1 (with_deep {B = Pairs} (pairs_at one n x.1) (pair x.0.0 x.0.1) later) in
          let key = took.spells.0 in
          let item = took.spells.1 in
          let regrouped : took.text ++ more.front ≡ key ++ (item ++ more.front) = ap (λ (t : List ℕ). t ++ more.front) took.spells.4 ∙ append_assoc key item more.front in
          record {
            before = pair x.0.0 x.0.1 more.before;
            front = took.text ++ more.front;
            middle = more.middle;
            spells = (key, item, more.front, took.spells.2.0, took.spells.3.0, more.spells, regrouped);
            fewer = omega (arith, more.fewer);
            shallow = omega (arith, took.spells.2.1, took.spells.3.1, more.shallow);
            parts = took.parts ∙ ap (λ (t : List ℕ). took.text ++ t) more.parts ∙ sym (append_assoc took.text more.front more.middle);
            deep = more.deep;
          }
    ]

pub record FieldFound (d : ℕ) (one : Kind → Parse Value) (from : ℤ) (bytes : List ℕ) : Type 0 where
  pub before : Fields
  pub last : ℤ
  pub id : ℤ
  pub kind : Kind
  pub front : List ℕ
  pub head : List ℕ
  pub behind : List ℕ
  pub spells : AreBefore before from last front
  pub heads : IsFieldHead last head id kind
  pub shallow : fields_depth before ≤ d
  pub parts : bytes ≡ front ++ (head ++ behind)
  pub deep : one kind behind ≡ Err Deep

step_deep : (d : ℕ) (one : Kind → Parse Value) → ((kind : Kind) → Sound (one kind) (IsInField d kind)) → (more : ℤ → Parse Fields) → ((id : ℤ) (bytes : List ℕ) → more id bytes ≡ Err Deep → FieldFound d one id bytes)
    → (last : ℤ) (bytes : List ℕ) (h : Option (ℤ × Kind)) (middle : List ℕ) → field_head_at last bytes ≡ Ok (h, middle) → fields_step one more h middle ≡ Err Deep → FieldFound d one last bytes
step_deep d one sound more deeper last bytes None middle head e = absurd cc
step_deep d one sound more deeper last bytes (Some h) middle head e =
    let took = field_head_takes last bytes (Some h) middle head in
    elim (bind_deep (one h.1 middle) (λ first. more h.0 first.1 >>= λ others. Ok (field h.0 first.0 others.0, others.1)) e) [
      | inl here ↦ record { before = no_fields; last = last; id = h.0; kind = h.1; front = []; head = took.text; behind = middle; spells = (refl, refl); heads = took.spells; shallow = omega arith; parts = took.parts; deep = here }
      | inr (x, is, later) ↦
          let body = sound h.1 middle x.0 x.1 is in
          let rest = deeper h.0 x.1 (with_deep {B = Fields} (more h.0 x.1) (field h.0 x.0) later) in
          let tail = rest.head ++ rest.behind in
          let parts : bytes ≡ (took.text ++ (body.text ++ rest.front)) ++ tail = took.parts ∙ ap (λ (t : List ℕ). took.text ++ t) (body.parts ∙ ap (λ (t : List ℕ). body.text ++ t) rest.parts ∙ sym (append_assoc body.text rest.front tail)) ∙ sym (append_assoc took.text (body.text ++ rest.front) tail) in
          record {
            before = field h.0 x.0 rest.before;
            last = rest.last;
            id = rest.id;
            kind = rest.kind;
            front = took.text ++ (body.text ++ rest.front);
            head = rest.head;
            behind = rest.behind;
            spells = (h.1, took.text, body.text, rest.front, took.spells, body.spells.0, rest.spells, refl);
            heads = rest.heads;
            shallow = omega (arith, body.spells.1, rest.shallow);
            parts = parts;
            deep = rest.deep;
          }
    ]

fields_deep : (d : ℕ) (one : Kind → Parse Value) → ((kind : Kind) → Sound (one kind) (IsInField d kind)) → (n : ℕ) (last : ℤ) (bytes : List ℕ) → fields_at one n last bytes ≡ Err Deep → FieldFound d one last bytes
unfolding fields_at
fields_deep d one sound zero last bytes e = absurd cc
fields_deep d one sound (suc n) last bytes e =
    elim (bind_deep (field_head_at last bytes) (λ head. fields_step one (fields_at one n) head.0 head.1) e) [
      | inl here ↦ absurd (shallow_not (field_head_at last bytes) (field_head_shallow last bytes) here)
      | inr (h, is, later) ↦ step_deep d one sound (fields_at one n) (fields_deep d one sound n) last bytes h.0 h.1 is later
    ]

-- where a list, a map or a struct has a part that nests past the number
abbrev Inside : ℕ → (Kind → List ℕ → Type 0) → Type 0
Inside d In = (inner : Kind) × (behind : List ℕ) × In inner behind × (value_at d inner behind ≡ Err Deep)

list_deep : (d : ℕ) (bytes : List ℕ) → list_at d bytes ≡ Err Deep → Inside d (InList d bytes)
unfolding list_with
list_deep d bytes e =
    elim (bind_deep (list_head_at bytes) (λ head. values_at (part_with (value_at d) head.0.0) head.0.1 head.1 >>= λ vs. Ok ((head.0.0, vs.0), vs.1)) e) [
      | inl here ↦ absurd (shallow_not (list_head_at bytes) (list_head_shallow bytes) here)
      | inr (h, is, later) ↦
          let number = h.0.0 in
          let took = list_head_takes bytes h.0 h.1 is in
          let inside = with_deep {B = ℕ × Values} (values_at (part_with (value_at d) number) h.0.1 h.1) (λ vs. (number, vs)) later in
          let found = values_deep d number (part_with (value_at d) number) (part_takes d (value_at d) (value_takes d) number) h.0.1 h.1 inside in
          let k = known_deep number (value_at d) found.behind found.deep in (
            k.0,
            found.behind,
            record { number = number; n = h.0.1; head = took.text; before = found.before; front = found.front; heads = took.spells; known = k.1; spells = found.spells; fewer = found.fewer; deep = found.shallow; parts = took.parts ∙ ap (λ (t : List ℕ). took.text ++ t) found.parts },
            k.2,
          )
    ]

-- the kinds that the head of a map with pairs states
map_kinds : (n : ℕ) (bytes : List ℕ) (h : ℕ × ℕ × ℕ) (rest : List ℕ) → map_types_at n bytes ≡ Ok (h, rest) → 0 < h.2 → ((key_kind : Kind) × (kind_of h.0 ≡ Some key_kind)) × ((kind : Kind) × (kind_of h.1 ≡ Some kind))
map_kinds zero bytes h rest e some =
    let same : 0 ≡ h.2 = ap (λ (p : ℕ × ℕ × ℕ). p.2) (ok_parts {A = ℕ × ℕ × ℕ} ((0, 0, 0), bytes) (h, rest) e).0 in
    absurd (omega arith)
map_kinds (suc n) [] h rest e some = absurd cc
map_kinds (suc n) (b ∷ bytes) h rest e some =
    let k = known_ok {A = (ℕ × ℕ × ℕ) × List ℕ} (kind_of (b / 16)) (λ key_kind. known (kind_of (b % 16)) (λ kind. Ok ((b / 16, b % 16, suc n), bytes))) (h, rest) e in
    let v = known_ok {A = (ℕ × ℕ × ℕ) × List ℕ} (kind_of (b % 16)) (λ kind. Ok ((b / 16, b % 16, suc n), bytes)) (h, rest) k.2 in
    let same = (ok_parts {A = ℕ × ℕ × ℕ} ((b / 16, b % 16, suc n), bytes) (h, rest) v.2).0 in
    ((k.0, subst (λ (p : ℕ × ℕ × ℕ). kind_of p.0 ≡ Some k.0) same k.1), (v.0, subst (λ (p : ℕ × ℕ × ℕ). kind_of p.1 ≡ Some v.0) same v.1))

map_head_kinds : (bytes : List ℕ) (h : ℕ × ℕ × ℕ) (rest : List ℕ) → map_head_at bytes ≡ Ok (h, rest) → 0 < h.2 → ((key_kind : Kind) × (kind_of h.0 ≡ Some key_kind)) × ((kind : Kind) × (kind_of h.1 ≡ Some kind))
unfolding map_head_at
map_head_kinds bytes h rest e some =
    let n = bind_ok (varint_at bytes) (λ n. map_types_at n.0 n.1) (h, rest) e in
    map_kinds n.0.0 n.0.1 h rest n.2 some

-- a pair that is too deep has a key that is, or a value behind its key
pair_deep : (d key_number number : ℕ) (key_kind kind : Kind) (bytes : List ℕ) → kind_of key_number ≡ Some key_kind → kind_of number ≡ Some kind → pair_with (part_with (value_at d) key_number) (part_with (value_at d) number) bytes ≡ Err Deep → Inside d (IsNext d key_number key_kind kind bytes)
unfolding pair_with
pair_deep d key_number number key_kind kind bytes k v e =
    elim (bind_deep (part_with (value_at d) key_number bytes) (λ key. part_with (value_at d) number key.1 >>= λ item. Ok ((key.0, item.0), item.1)) e) [
      | inl here ↦
          let key = known_deep key_number (value_at d) bytes here in
          let same : key.0 ≡ key_kind = some_kind key.0 key_kind (sym key.1 ∙ k) in
          (key.0, bytes, inl (same, refl), key.2)
      | inr (x, is, later) ↦
          let took = part_takes d (value_at d) (value_takes d) key_number bytes x.0 x.1 is in
          let item = known_deep number (value_at d) x.1 (with_deep {B = Value × Value} (part_with (value_at d) number x.1) (λ item. (x.0, item)) later) in
          let same : item.0 ≡ kind = some_kind item.0 kind (sym item.1 ∙ v) in
          (item.0, x.1, inr (same, record { key = x.0; text = took.text; spells = took.spells.0; deep = took.spells.1; parts = took.parts }), item.2)
    ]

map_deep : (d : ℕ) (bytes : List ℕ) → map_at d bytes ≡ Err Deep → Inside d (InMap d bytes)
unfolding map_with
map_deep d bytes e =
    elim (bind_deep (map_head_at bytes) (λ head. pairs_at (pair_with (part_with (value_at d) head.0.0) (part_with (value_at d) head.0.1)) head.0.2 head.1 >>= λ ps. Ok ((head.0.0, head.0.1, ps.0), ps.1)) e) [
      | inl here ↦ absurd (shallow_not (map_head_at bytes) (map_head_shallow bytes) here)
      | inr (h, is, later) ↦
          let key_number = h.0.0 in
          let number = h.0.1 in
          let keys = part_with (value_at d) key_number in
          let items = part_with (value_at d) number in
          let took = map_head_takes bytes h.0 h.1 is in
          let inside = with_deep {B = ℕ × ℕ × Pairs} (pairs_at (pair_with keys items) h.0.2 h.1) (λ ps. (key_number, number, ps)) later in
          let sound = pair_takes d key_number number keys items (part_takes d (value_at d) (value_takes d) key_number) (part_takes d (value_at d) (value_takes d) number) in
          let found = pairs_deep d key_number number (pair_with keys items) sound h.0.2 h.1 inside in
          let types = map_head_kinds bytes h.0 h.1 is (omega (arith, found.fewer)) in
          let next = pair_deep d key_number number types.0.0 types.1.0 found.middle types.0.1 types.1.1 found.deep in (
            next.0,
            next.1,
            record { key_number = key_number; number = number; key_kind = types.0.0; kind = types.1.0; n = h.0.2; head = took.text; before = found.before; front = found.front; middle = found.middle; heads = took.spells; key_known = types.0.1; known = types.1.1; spells = found.spells; fewer = found.fewer; deep = found.shallow; parts = took.parts ∙ ap (λ (t : List ℕ). took.text ++ t) found.parts; next = next.2 },
            next.3,
          )
    ]

struct_deep : (d : ℕ) (bytes : List ℕ) → struct_at d bytes ≡ Err Deep → (inner : Kind) × (behind : List ℕ) × InStruct d bytes inner behind × (field_with (value_at d) inner behind ≡ Err Deep)
unfolding struct_with
struct_deep d bytes e =
    let found = fields_deep d (field_with (value_at d)) (field_takes d (value_at d) (value_takes d)) (length bytes) (pos 0) bytes e in (
      found.kind,
      found.behind,
      record { before = found.before; last = found.last; id = found.id; front = found.front; head = found.head; spells = found.spells; heads = found.heads; deep = found.shallow; parts = found.parts },
      found.deep,
    )

-- a truth value in a field is too deep only where nothing may stand
truth_nests : (d c : ℕ) (b : Bool) (bytes : List ℕ) → value_at d (cond b kinds.True kinds.False) (c ∷ bytes) ≡ Err Deep → NestsPast d (cond b kinds.True kinds.False) bytes
unfolding value_at
truth_nests zero c b bytes e = tt
truth_nests (suc d) c true bytes e = absurd cc
truth_nests (suc d) c false bytes e = absurd cc

field_nests : (d : ℕ) (kind : Kind) (bytes : List ℕ) → (value_at d kind bytes ≡ Err Deep → NestsPast d kind bytes) → field_with (value_at d) kind bytes ≡ Err Deep → NestsPast d kind bytes
field_nests d kinds.True bytes h e = truth_nests d 1 true bytes e
field_nests d kinds.False bytes h e = truth_nests d 2 false bytes e
field_nests d kinds.I8 bytes h e = h e
field_nests d kinds.I16 bytes h e = h e
field_nests d kinds.I32 bytes h e = h e
field_nests d kinds.I64 bytes h e = h e
field_nests d kinds.Double bytes h e = h e
field_nests d kinds.Binary bytes h e = h e
field_nests d kinds.List bytes h e = h e
field_nests d kinds.Set bytes h e = h e
field_nests d kinds.Map bytes h e = h e
field_nests d kinds.Struct bytes h e = h e

abbrev Past : ℕ → (Kind → List ℕ → Type 0) → Type 0
Past d In = (inner : Kind) × (behind : List ℕ) × In inner behind × NestsPast d inner behind

element_nests : (d : ℕ) (kind : Kind) (bytes : List ℕ) → (list_at d bytes ≡ Err Deep → Past d (InList d bytes)) → (map_at d bytes ≡ Err Deep → Past d (InMap d bytes)) → (struct_at d bytes ≡ Err Deep → Past d (InStruct d bytes)) → element_at d kind bytes ≡ Err Deep → NestsPast (suc d) kind bytes
element_nests d kinds.True bytes lists maps structs e = flat_deep (byte_at bytes) (λ b. truth (eqb b 1)) (NestsPast (suc d) kinds.True bytes) (byte_shallow bytes) e
element_nests d kinds.False bytes lists maps structs e = flat_deep (byte_at bytes) (λ b. truth (eqb b 1)) (NestsPast (suc d) kinds.False bytes) (byte_shallow bytes) e
element_nests d kinds.I8 bytes lists maps structs e = flat_deep (int8_at bytes) int8 (NestsPast (suc d) kinds.I8 bytes) (int8_shallow bytes) e
element_nests d kinds.I16 bytes lists maps structs e = flat_deep (signed_at (2 ^ 16) bytes) int16 (NestsPast (suc d) kinds.I16 bytes) (signed_shallow (2 ^ 16) bytes) e
element_nests d kinds.I32 bytes lists maps structs e = flat_deep (signed_at (2 ^ 32) bytes) int32 (NestsPast (suc d) kinds.I32 bytes) (signed_shallow (2 ^ 32) bytes) e
element_nests d kinds.I64 bytes lists maps structs e = flat_deep (signed_at (2 ^ 64) bytes) int64 (NestsPast (suc d) kinds.I64 bytes) (signed_shallow (2 ^ 64) bytes) e
element_nests d kinds.Double bytes lists maps structs e = flat_deep (bytes_at 8 bytes) double (NestsPast (suc d) kinds.Double bytes) (bytes_shallow 8 bytes) e
element_nests d kinds.Binary bytes lists maps structs e = flat_deep (binary_at bytes) binary (NestsPast (suc d) kinds.Binary bytes) (binary_shallow bytes) e
element_nests d kinds.List bytes lists maps structs e = let p = lists (with_deep (list_at d bytes) (λ x. list x.0 x.1) e) in inl (inl refl, p.0, p.1, p.2, p.3)
element_nests d kinds.Set bytes lists maps structs e = let p = lists (with_deep (list_at d bytes) (λ x. set x.0 x.1) e) in inl (inr refl, p.0, p.1, p.2, p.3)
element_nests d kinds.Map bytes lists maps structs e = let p = maps (with_deep (map_at d bytes) (λ x. map x.0 x.1 x.2) e) in inr (inl (refl, p.0, p.1, p.2, p.3))
element_nests d kinds.Struct bytes lists maps structs e = let p = structs (with_deep (struct_at d bytes) struct e) in inr (inr (refl, p.0, p.1, p.2, p.3))

-- what is too deep nests past the number
pub nests : (d : ℕ) (kind : Kind) (bytes : List ℕ) → value_at d kind bytes ≡ Err Deep → NestsPast d kind bytes
unfolding value_at
nests zero kind bytes e = tt
nests (suc d) kind bytes e =
    element_nests d kind bytes
    (λ f. let p = list_deep d bytes f in (p.0, p.1, p.2, nests d p.0 p.1 p.3))
    (λ f. let p = map_deep d bytes f in (p.0, p.1, p.2, nests d p.0 p.1 p.3))
    (λ f. let p = struct_deep d bytes f in (p.0, p.1, p.2, field_nests d p.0 p.1 (nests d p.0 p.1) p.3))
    e

-- ---- a step that is read, and then one that is too deep

pub known_too_deep : (one : Kind → Parse Value) (number : ℕ) (kind : Kind) (bytes : List ℕ) → kind_of number ≡ Some kind → one kind bytes ≡ Err Deep → part_with one number bytes ≡ Err Deep
known_too_deep one number kind bytes k e = rw k e

pub value_then : (one : Parse Value) (n : ℕ) (bytes : List ℕ) (v : Value) (after : List ℕ) → one bytes ≡ Ok (v, after) → values_at one n after ≡ Err Deep → values_at one (suc n) bytes ≡ Err Deep
unfolding values_at
value_then one n bytes v after here later = rw (here, later) refl

pub after_key : (keys items : Parse Value) (bytes : List ℕ) (k : Value) (middle : List ℕ) → keys bytes ≡ Ok (k, middle) → items middle ≡ Err Deep → pair_with keys items bytes ≡ Err Deep
unfolding pair_with
after_key keys items bytes k middle key later = rw (key, later) refl

pub pair_then : (keys items : Parse Value) (n : ℕ) (bytes : List ℕ) (k : Value) (middle : List ℕ) (v : Value) (after : List ℕ) → keys bytes ≡ Ok (k, middle) → items middle ≡ Ok (v, after) → pairs_at (pair_with keys items) n after ≡ Err Deep → pairs_at (pair_with keys items) (suc n) bytes ≡ Err Deep
unfolding pairs_at pair_with
pair_then keys items n bytes k middle v after key item later = rw (key, item, later) refl

pub field_then : (one : Kind → Parse Value) (n : ℕ) (last : ℤ) (bytes : List ℕ) (id : ℤ) (kind : Kind) (middle : List ℕ) (v : Value) (after : List ℕ) → field_head_at last bytes ≡ Ok (Some (id, kind), middle) → one kind middle ≡ Ok (v, after) → fields_at one n id after ≡ Err Deep → fields_at one (suc n) last bytes ≡ Err Deep
unfolding fields_at
field_then one n last bytes id kind middle v after head here later = rw (head, here, later) refl

pub list_then : (one : Kind → Parse Value) (number n : ℕ) (bytes middle : List ℕ) → list_head_at bytes ≡ Ok ((number, n), middle) → values_at (part_with one number) n middle ≡ Err Deep → list_with one bytes ≡ Err Deep
unfolding list_with
list_then one number n bytes middle head later = rw (head, later) refl

pub map_then : (one : Kind → Parse Value) (key_number number n : ℕ) (bytes middle : List ℕ) → map_head_at bytes ≡ Ok ((key_number, number, n), middle) → pairs_at (pair_with (part_with one key_number) (part_with one number)) n middle ≡ Err Deep → map_with one bytes ≡ Err Deep
unfolding map_with
map_then one key_number number n bytes middle head later = rw (head, later) refl

-- ---- it nests past, so it is too deep

values_too_deep : (before : Values) (d number : ℕ) (kind : Kind) (front behind : List ℕ) (n : ℕ) → AreElements before number front → values_depth before ≤ d → count before < n → kind_of number ≡ Some kind → value_at d kind behind ≡ Err Deep → values_at (part_with (value_at d) number) n (front ++ behind) ≡ Err Deep
unfolding values_at
values_too_deep before d number kind front behind zero h deep fewer k e = absurd (omega arith)
values_too_deep no_values d number kind front behind (suc n) h deep fewer k e = rw (h, k, e) refl
values_too_deep (value v vs) d number kind front behind (suc n) h deep fewer k e =
    let regrouped : front ++ behind ≡ h.0 ++ (h.1 ++ behind) = ap (λ (t : List ℕ). t ++ behind) h.4 ∙ append_assoc h.0 h.1 behind in
    let here = part_again (value_at d) number h.2.0 v (h.0 ++ (h.1 ++ behind)) (h.1 ++ behind) h.2.1 (value_again d v h.2.0 h.0 (h.1 ++ behind) h.2.2 (omega arith)) in
    let later = values_too_deep vs d number kind h.1 behind n h.3 (omega arith) (omega arith) k e in
    ap (values_at (part_with (value_at d) number) (suc n)) regrouped ∙ value_then (part_with (value_at d) number) n (h.0 ++ (h.1 ++ behind)) v (h.1 ++ behind) here later

pairs_too_deep : (before : Pairs) (d key_number number : ℕ) (front behind : List ℕ) (n : ℕ) → ArePairs before key_number number front → pairs_depth before ≤ d → pair_count before < n → pair_with (part_with (value_at d) key_number) (part_with (value_at d) number) behind ≡ Err Deep
    → pairs_at (pair_with (part_with (value_at d) key_number) (part_with (value_at d) number)) n (front ++ behind) ≡ Err Deep
unfolding pairs_at
pairs_too_deep before d key_number number front behind zero h deep fewer e = absurd (omega arith)
pairs_too_deep no_pairs d key_number number front behind (suc n) h deep fewer e = rw (h, e) refl
pairs_too_deep (pair k v ps) d key_number number front behind (suc n) h deep fewer e =
    let keys = part_with (value_at d) key_number in
    let items = part_with (value_at d) number in
    let after = h.2 ++ behind in
    let regrouped : front ++ behind ≡ h.0 ++ (h.1 ++ after) = ap (λ (t : List ℕ). t ++ behind) h.6 ∙ append_assoc h.0 (h.1 ++ h.2) behind ∙ ap (λ (t : List ℕ). h.0 ++ t) (append_assoc h.1 h.2 behind) in
    let key = part_again (value_at d) key_number h.3.0 k (h.0 ++ (h.1 ++ after)) (h.1 ++ after) h.3.1 (value_again d k h.3.0 h.0 (h.1 ++ after) h.3.2 (omega arith)) in
    let item = part_again (value_at d) number h.4.0 v (h.1 ++ after) after h.4.1 (value_again d v h.4.0 h.1 after h.4.2 (omega arith)) in
    let later = pairs_too_deep ps d key_number number h.2 behind n h.5 (omega arith) (omega arith) e in
    ap (pairs_at (pair_with keys items) (suc n)) regrouped ∙ pair_then keys items n (h.0 ++ (h.1 ++ after)) k (h.1 ++ after) v after key item later

next_too_deep : (d key_number number : ℕ) (key_kind kind inner : Kind) (bytes behind : List ℕ) → kind_of key_number ≡ Some key_kind → kind_of number ≡ Some kind → IsNext d key_number key_kind kind bytes inner behind → value_at d inner behind ≡ Err Deep
    → pair_with (part_with (value_at d) key_number) (part_with (value_at d) number) bytes ≡ Err Deep
unfolding pair_with
next_too_deep d key_number number key_kind kind inner bytes behind k v next e =
    elim next [
      | inl (same, all) ↦
          let here : value_at d key_kind bytes ≡ Err Deep = ap (value_at d key_kind) (sym all) ∙ ap (λ (j : Kind). value_at d j behind) (sym same) ∙ e in
          rw (k, here) refl
      | inr (same, after) ↦
          let there : value_at d kind behind ≡ Err Deep = ap (λ (j : Kind). value_at d j behind) (sym same) ∙ e in
          let key = part_again (value_at d) key_number after.spells.0 after.key bytes behind after.spells.1 (ap (value_at d after.spells.0) after.parts ∙ value_again d after.key after.spells.0 after.text behind after.spells.2 after.deep) in
          after_key (part_with (value_at d) key_number) (part_with (value_at d) number) bytes after.key behind key (rw (v, there) refl)
    ]

truth_past : (d c : ℕ) (b : Bool) (bytes : List ℕ) → NestsPast d (cond b kinds.True kinds.False) bytes → value_at d (cond b kinds.True kinds.False) (c ∷ bytes) ≡ Err Deep
unfolding value_at
truth_past zero c b bytes h = refl
truth_past (suc d) c true bytes h = absurd (elim h [ inl w ↦ elim w.0 [ inl k ↦ cc | inr k ↦ cc ] | inr w ↦ elim w [ inl m ↦ absurd cc | inr s ↦ absurd cc ] ])
truth_past (suc d) c false bytes h = absurd (elim h [ inl w ↦ elim w.0 [ inl k ↦ cc | inr k ↦ cc ] | inr w ↦ elim w [ inl m ↦ absurd cc | inr s ↦ absurd cc ] ])

field_too_deep : (d : ℕ) (kind : Kind) (bytes : List ℕ) → NestsPast d kind bytes → value_at d kind bytes ≡ Err Deep → field_with (value_at d) kind bytes ≡ Err Deep
field_too_deep d kinds.True bytes h e = truth_past d 1 true bytes h
field_too_deep d kinds.False bytes h e = truth_past d 2 false bytes h
field_too_deep d kinds.I8 bytes h e = e
field_too_deep d kinds.I16 bytes h e = e
field_too_deep d kinds.I32 bytes h e = e
field_too_deep d kinds.I64 bytes h e = e
field_too_deep d kinds.Double bytes h e = e
field_too_deep d kinds.Binary bytes h e = e
field_too_deep d kinds.List bytes h e = e
field_too_deep d kinds.Set bytes h e = e
field_too_deep d kinds.Map bytes h e = e
field_too_deep d kinds.Struct bytes h e = e

fields_too_deep : (before : Fields) (d n : ℕ) (from last id : ℤ) (kind : Kind) (front head behind : List ℕ) → AreBefore before from last front → IsFieldHead last head id kind → fields_depth before ≤ d → length (front ++ (head ++ behind)) ≤ n
    → field_with (value_at d) kind behind ≡ Err Deep → fields_at (field_with (value_at d)) n from (front ++ (head ++ behind)) ≡ Err Deep
unfolding fields_at
fields_too_deep no_fields d zero from last id kind front head behind h is deep enough e = absurd (omega (arith, ap length is.parts, length-append head behind, length-append front (head ++ behind)))
fields_too_deep no_fields d (suc n) from last id kind front head behind h is deep enough e =
    let heads : IsFieldHead from head id kind = subst (λ (z : ℤ). IsFieldHead z head id kind) (sym h.0) is in
    ap (λ (t : List ℕ). fields_at (field_with (value_at d)) (suc n) from (t ++ (head ++ behind))) h.1 ∙ rw (field_head_again from head id kind behind heads, e) refl
fields_too_deep (field i v fs) d zero from last id kind front head behind h is deep enough e = absurd (omega (arith, ap length is.parts, length-append head behind, length-append front (head ++ behind)))
fields_too_deep (field i v fs) d (suc n) from last id kind front head behind h is deep enough e =
    let tail = head ++ behind in
    let regrouped : front ++ tail ≡ h.1 ++ (h.2 ++ (h.3 ++ tail)) = ap (λ (t : List ℕ). t ++ tail) h.7 ∙ append_assoc h.1 (h.2 ++ h.3) tail ∙ ap (λ (t : List ℕ). h.1 ++ t) (append_assoc h.2 h.3 tail) in
    let sizes = field_sizes from h.1 i h.0 h.2 h.3 front h.4 h.7 in
    let shorter : length (h.3 ++ tail) ≤ n = omega (arith, sizes, length-append h.3 tail, length-append front tail) in
    let here = field_again (value_at d) v h.0 h.2 (h.3 ++ tail) (λ t p. value_again d v h.0 t (h.3 ++ tail) p (omega arith)) h.5 in
    let later = fields_too_deep fs d n i last id kind h.3 head behind h.6 is (omega arith) shorter e in
    ap (fields_at (field_with (value_at d)) (suc n) from) regrouped ∙ field_then (field_with (value_at d)) n from (h.1 ++ (h.2 ++ (h.3 ++ tail))) i h.0 (h.2 ++ (h.3 ++ tail)) v (h.3 ++ tail) (field_head_again from h.1 i h.0 (h.2 ++ (h.3 ++ tail)) h.4) here later

list_too_deep : (d : ℕ) (bytes : List ℕ) (inner : Kind) (behind : List ℕ) → InList d bytes inner behind → value_at d inner behind ≡ Err Deep → list_at d bytes ≡ Err Deep
list_too_deep d bytes inner behind w e =
    let later = values_too_deep w.before d w.number inner w.front behind w.n w.spells w.deep w.fewer w.known e in
    ap (list_at d) w.parts ∙ list_then (value_at d) w.number w.n (w.head ++ (w.front ++ behind)) (w.front ++ behind) (list_head_again w.head w.number w.n (w.front ++ behind) w.heads) later

-- a head with pairs is read again
map_head_full : (n : ℕ) (text : List ℕ) (key_number number : ℕ) (key_kind kind : Kind) (rest : List ℕ) → 0 < n → kind_of key_number ≡ Some key_kind → kind_of number ≡ Some kind → IsMapHead text key_number number n → map_head_at (text ++ rest) ≡ Ok ((key_number, number, n), rest)
map_head_full zero text key_number number key_kind kind rest some k v h = absurd (omega arith)
map_head_full (suc n) text key_number number key_kind kind rest some k v h = map_head_some text key_number number n key_kind kind rest k v h

map_too_deep : (d : ℕ) (bytes : List ℕ) (inner : Kind) (behind : List ℕ) → InMap d bytes inner behind → value_at d inner behind ≡ Err Deep → map_at d bytes ≡ Err Deep
map_too_deep d bytes inner behind w e =
    let next = next_too_deep d w.key_number w.number w.key_kind w.kind inner w.middle behind w.key_known w.known w.next e in
    let later = pairs_too_deep w.before d w.key_number w.number w.front w.middle w.n w.spells w.deep w.fewer next in
    let head = map_head_full w.n w.head w.key_number w.number w.key_kind w.kind (w.front ++ w.middle) (omega (arith, w.fewer)) w.key_known w.known w.heads in
    ap (map_at d) w.parts ∙ map_then (value_at d) w.key_number w.number w.n (w.head ++ (w.front ++ w.middle)) (w.front ++ w.middle) head later

struct_too_deep : (d : ℕ) (bytes : List ℕ) (inner : Kind) (behind : List ℕ) → InStruct d bytes inner behind → field_with (value_at d) inner behind ≡ Err Deep → struct_at d bytes ≡ Err Deep
unfolding struct_with
struct_too_deep d bytes inner behind w e =
    ap (struct_at d) w.parts ∙ fields_too_deep w.before d (length (w.front ++ (w.head ++ behind))) (pos 0) w.last w.id inner w.front w.head behind w.spells w.heads w.deep (omega arith) e

pub element_too_deep : (d : ℕ) (kind k : Kind) (bytes : List ℕ) → kind ≡ k → element_at d k bytes ≡ Err Deep → element_at d kind bytes ≡ Err Deep
element_too_deep d kind k bytes same e = ap (λ (j : Kind). element_at d j bytes) same ∙ e

-- what nests past the number is too deep, whatever follows
pub too_deep : (d : ℕ) (kind : Kind) (bytes : List ℕ) → NestsPast d kind bytes → value_at d kind bytes ≡ Err Deep
unfolding value_at
too_deep zero kind bytes h = refl
too_deep (suc d) kind bytes h =
    elim h [
      | inl w ↦
          let inside : list_at d bytes ≡ Err Deep = list_too_deep d bytes w.1 w.2 w.3 (too_deep d w.1 w.2 w.4) in
          elim w.0 [
            | inl k ↦ element_too_deep d kind kinds.List bytes k (rw inside refl)
            | inr k ↦ element_too_deep d kind kinds.Set bytes k (rw inside refl)
          ]
      | inr more ↦
          elim more [
            | inl w ↦
                let inside : map_at d bytes ≡ Err Deep = map_too_deep d bytes w.1 w.2 w.3 (too_deep d w.1 w.2 w.4) in
                element_too_deep d kind kinds.Map bytes w.0 (rw inside refl)
            | inr w ↦
                let inside : struct_at d bytes ≡ Err Deep = struct_too_deep d bytes w.1 w.2 w.3 (field_too_deep d w.1 w.2 w.4 (too_deep d w.1 w.2 w.4)) in
                element_too_deep d kind kinds.Struct bytes w.0 (rw inside refl)
          ]
    ]
