-- What is spelled so is read again, whatever follows it.
use Rattle.std.proofs.Common.{◌≡◌, ◌⊎◌, ℕ, zero, suc, ℤ, pos, ◌-◌, ◌/◌, ◌%◌, ◌^◌, ◌<◌, ◌≤◌, Bool, true, false, cond, eqb, ltb, List, [], ◌∷◌, ◌++◌, length, Some, Result, Ok, Err, refl, sym, ap, ◌∙◌, append_assoc, inl, inr, arith, eq-eqb}
use Rattle.std.proofs.lemmas.Bool.{le-ltb, lt-ltb, ne_eqb}
use Rattle.std.proofs.lemmas.List.{take_at, drop_at, length-append}
use Rattle.std.specs.Int.{w8, cast_signed}
use Rattle.pq_numbers.specs.Varint.{IsNumber}
use Rattle.pq_numbers.specs.Zigzag.{IsSigned}
use Rattle.pq_numbers.proofs.Numbers as numbers
use Rattle.pq_thrift.specs.declared.fault.Fault.{Fault}
use Rattle.pq_thrift.specs.declared.fault.Fault.TheVariants.{Deep}
use Rattle.pq_thrift.specs.declared.kind.Kind.{Kind}
use Rattle.pq_thrift.specs.declared.kind.Kind.TheVariants as kinds
use Rattle.pq_thrift.specs.Kinds.{kind_of}
use Rattle.pq_thrift.specs.Parse.{◌>>=◌, Parse}
use Rattle.pq_thrift.specs.Numbers.{found, varint_at, signed_at, bytes_at, binary_at}
use Rattle.pq_thrift.specs.Value.{Value, truth, int8, int16, int32, int64, double, binary, list, set, map, struct, Values, no_values, value, Pairs, no_pairs, pair, Fields, no_fields, field}
use Rattle.pq_thrift.specs.Reading.{count_at, list_head_at, map_head_at, id_at, field_head_at, field_with, part_with, values_at, pair_with, pairs_at, fields_at, list_with, map_with, struct_with, value_at, list_at, map_at, struct_at, element_at}
use Rattle.pq_thrift.specs.Grammar.{IsCount, IsListHead, IsMapHead, IsId, IsFieldHead, IsBinary, count, pair_count, InField, IsElement, AreElements, ArePairs, AreFields, depth, values_depth, pairs_depth, fields_depth}
use Rattle.pq_thrift.proofs.Takes.{with}

-- ---- numbers

pub number_again : (text : List ℕ) (n : ℕ) (rest : List ℕ) → IsNumber text n → varint_at (text ++ rest) ≡ Ok (n, rest)
number_again text n rest h = ap found (numbers.number_again text n rest h)

pub signed_again : (limit : ℕ) (text : List ℕ) (z : ℤ) (rest : List ℕ) → IsSigned limit text z → signed_at limit (text ++ rest) ≡ Ok (z, rest)
unfolding signed_at
signed_again limit text z rest h =
    let test : ltb h.n limit ≡ true = lt-ltb h.n limit h.fits in
    rw (number_again text h.n rest h.number, test, h.is) refl

binary_again : (text s rest : List ℕ) → IsBinary text s → binary_at (text ++ rest) ≡ Ok (s, rest)
unfolding binary_at
binary_again text s rest h =
    let regrouped : text ++ rest ≡ h.0 ++ (s ++ rest) = ap (λ (t : List ℕ). t ++ rest) h.2 ∙ append_assoc h.0 s rest in
    let long : ltb (length (s ++ rest)) (length s) ≡ false = le-ltb _ _ (omega (arith, length-append s rest)) in
    ap binary_at regrouped ∙ rw (number_again h.0 (length s) (s ++ rest) h.1, long, take_at s rest (length s) refl, drop_at s rest (length s) refl) refl

bytes_again : (text s rest : List ℕ) → length s ≡ 8 → text ≡ s → bytes_at 8 (text ++ rest) ≡ Ok (s, rest)
bytes_again text s rest size is =
    let long : ltb (length (s ++ rest)) 8 ≡ false = le-ltb _ _ (omega (arith, length-append s rest)) in
    ap (λ (t : List ℕ). bytes_at 8 (t ++ rest)) is ∙ rw (long, take_at s rest 8 size, drop_at s rest 8 size) refl

-- ---- heads

count_again : (high : ℕ) (text : List ℕ) (n : ℕ) (rest : List ℕ) → IsCount high text n → count_at high (text ++ rest) ≡ Ok (n, rest)
count_again high text n rest h =
    elim h [
      | inl (full, number) ↦
          let test : eqb high 15 ≡ true = eq-eqb high 15 full in
          rw test (number_again text n rest number)
      | inr (other, is, nothing) ↦
          let test : eqb high 15 ≡ false = ne_eqb high 15 other in
          rw (test, nothing, is) refl
    ]

pub list_head_again : (text : List ℕ) (number n : ℕ) (rest : List ℕ) → IsListHead text number n → list_head_at (text ++ rest) ≡ Ok ((number, n), rest)
unfolding list_head_at
list_head_again text number n rest h =
    ap (λ (t : List ℕ). list_head_at (t ++ rest)) h.parts ∙ rw (count_again (h.byte / 16) h.tail n rest h.count, h.low) refl

pub map_head_none : (text : List ℕ) (key_number number : ℕ) (rest : List ℕ) → IsMapHead text key_number number 0 → map_head_at (text ++ rest) ≡ Ok ((key_number, number, 0), rest)
unfolding map_head_at
map_head_none text key_number number rest h = rw (number_again text 0 rest h.2, h.0, h.1) refl

pub map_head_some : (text : List ℕ) (key_number number n : ℕ) (key_kind kind : Kind) (rest : List ℕ) → kind_of key_number ≡ Some key_kind → kind_of number ≡ Some kind → IsMapHead text key_number number (suc n) → map_head_at (text ++ rest) ≡ Ok ((key_number, number, suc n), rest)
unfolding map_head_at
map_head_some text key_number number n key_kind kind rest k v h =
    let regrouped : text ++ rest ≡ h.size ++ (h.byte ∷ rest) = ap (λ (t : List ℕ). t ++ rest) h.parts ∙ append_assoc h.size (h.byte ∷ []) rest in
    let high : kind_of (h.byte / 16) ≡ Some key_kind = ap kind_of h.high ∙ k in
    let low : kind_of (h.byte % 16) ≡ Some kind = ap kind_of h.low ∙ v in
    ap map_head_at regrouped ∙ rw (number_again h.size (suc n) (h.byte ∷ rest) h.number_of, high, low, h.high, h.low) refl

id_again : (last : ℤ) (step : ℕ) (text : List ℕ) (id : ℤ) (rest : List ℕ) → IsId last step text id → id_at last step (text ++ rest) ≡ Ok (id, rest)
id_again last step text id rest h =
    elim h [
      | inl (none, number) ↦
          let test : eqb step 0 ≡ true = eq-eqb step 0 none in
          rw test (signed_again (2 ^ 16) text id rest number)
      | inr (some, is, fits, nothing) ↦
          let test : eqb step 0 ≡ false = ne_eqb step 0 some in
          rw (test, ← is, fits, nothing) refl
    ]

field_head_again_at : (last : ℤ) (byte : ℕ) (tail : List ℕ) (id : ℤ) (kind : Kind) (rest : List ℕ) → kind_of (byte % 16) ≡ Some kind → IsId last (byte / 16) tail id → field_head_at last (byte ∷ tail ++ rest) ≡ Ok (Some (id, kind), rest)
unfolding field_head_at
field_head_again_at last zero tail id kind rest k is = absurd cc
field_head_again_at last (suc b) tail id kind rest k is =
    let test : eqb (suc b) 0 ≡ false = ne_eqb (suc b) 0 (λ e. absurd (omega arith)) in
    rw (test, k, id_again last (suc b / 16) tail id rest is) refl

pub field_head_again : (last : ℤ) (text : List ℕ) (id : ℤ) (kind : Kind) (rest : List ℕ) → IsFieldHead last text id kind → field_head_at last (text ++ rest) ≡ Ok (Some (id, kind), rest)
field_head_again last text id kind rest h =
    ap (λ (t : List ℕ). field_head_at last (t ++ rest)) h.parts ∙ field_head_again_at last h.byte h.tail id kind rest h.known h.is

-- ---- steps over values and fields

values_step : (one : Parse Value) (v : Value) (vs : Values) (n : ℕ) (first others rest : List ℕ) → one (first ++ (others ++ rest)) ≡ Ok (v, others ++ rest) → values_at one n (others ++ rest) ≡ Ok (vs, rest)
    → values_at one (suc n) ((first ++ others) ++ rest) ≡ Ok (value v vs, rest)
unfolding values_at
values_step one v vs n first others rest here there = ap (values_at one (suc n)) (append_assoc first others rest) ∙ rw (here, there) refl

fields_none : (one : Kind → Parse Value) (n : ℕ) (last : ℤ) (rest : List ℕ) → 0 < n → fields_at one n last (0 ∷ rest) ≡ Ok (no_fields, rest)
unfolding fields_at field_head_at
fields_none one zero last rest h = absurd (omega arith)
fields_none one (suc n) last rest h = refl

values_none : (one : Parse Value) (text rest : List ℕ) → text ≡ [] → values_at one 0 (text ++ rest) ≡ Ok (no_values, rest)
unfolding values_at
values_none one text rest e = ap (λ (t : List ℕ). values_at one 0 (t ++ rest)) e

pairs_none : (one : Parse (Value × Value)) (text rest : List ℕ) → text ≡ [] → pairs_at one 0 (text ++ rest) ≡ Ok (no_pairs, rest)
unfolding pairs_at
pairs_none one text rest e = ap (λ (t : List ℕ). pairs_at one 0 (t ++ rest)) e

pair_step : (keys items : Parse Value) (k v : Value) (ps : Pairs) (n : ℕ) (key item others rest : List ℕ)
    → keys (key ++ (item ++ (others ++ rest))) ≡ Ok (k, item ++ (others ++ rest)) → items (item ++ (others ++ rest)) ≡ Ok (v, others ++ rest) → pairs_at (pair_with keys items) n (others ++ rest) ≡ Ok (ps, rest)
    → pairs_at (pair_with keys items) (suc n) ((key ++ (item ++ others)) ++ rest) ≡ Ok (pair k v ps, rest)
unfolding pairs_at pair_with
pair_step keys items k v ps n key item others rest first second there =
    let regrouped : (key ++ (item ++ others)) ++ rest ≡ key ++ (item ++ (others ++ rest)) = append_assoc key (item ++ others) rest ∙ ap (λ (t : List ℕ). key ++ t) (append_assoc item others rest) in
    ap (pairs_at (pair_with keys items) (suc n)) regrouped ∙ rw (first, second, there) refl

fields_ended : (one : Kind → Parse Value) (n : ℕ) (last : ℤ) (text rest : List ℕ) → text ≡ 0 ∷ [] → length text ≤ n → fields_at one n last (text ++ rest) ≡ Ok (no_fields, rest)
fields_ended one n last text rest e enough = ap (λ (t : List ℕ). fields_at one n last (t ++ rest)) e ∙ fields_none one n last rest (omega (arith, ap length e))

-- a field takes a byte
pub field_sizes : (last : ℤ) (head : List ℕ) (id : ℤ) (kind : Kind) (body others text : List ℕ) → IsFieldHead last head id kind → text ≡ head ++ (body ++ others) → length others < length text
field_sizes last head id kind body others text h e = omega (arith, ap length e, length-append head (body ++ others), length-append body others, ap length h.parts)

fields_one : (one : Kind → Parse Value) (n : ℕ) (last id : ℤ) (kind : Kind) (v : Value) (fs : Fields) (head body others rest : List ℕ) → 0 < n → IsFieldHead last head id kind
    → one kind (body ++ (others ++ rest)) ≡ Ok (v, others ++ rest) → fields_at one (n - 1) id (others ++ rest) ≡ Ok (fs, rest)
    → fields_at one n last ((head ++ (body ++ others)) ++ rest) ≡ Ok (field id v fs, rest)
unfolding fields_at
fields_one one zero last id kind v fs head body others rest h is here there = absurd (omega arith)
fields_one one (suc n) last id kind v fs head body others rest h is here there =
    let regrouped : (head ++ (body ++ others)) ++ rest ≡ head ++ (body ++ (others ++ rest)) = append_assoc head (body ++ others) rest ∙ ap (λ (t : List ℕ). head ++ t) (append_assoc body others rest) in
    let k : suc n - 1 ≡ n = omega arith in
    let later : fields_at one n id (others ++ rest) ≡ Ok (fs, rest) = rw k at there in
    ap (fields_at one (suc n) last) regrouped ∙ rw (field_head_again last head id kind (body ++ (others ++ rest)) is, here, later) refl

list_with_again : (one : Kind → Parse Value) (number : ℕ) (vs : Values) (head body rest : List ℕ) → IsListHead head number (count vs) → values_at (part_with one number) (count vs) (body ++ rest) ≡ Ok (vs, rest)
    → list_with one (head ++ (body ++ rest)) ≡ Ok ((number, vs), rest)
unfolding list_with
list_with_again one number vs head body rest h there = rw (list_head_again head number (count vs) (body ++ rest) h, there) refl

map_with_again : (one : Kind → Parse Value) (key_number number n : ℕ) (ps : Pairs) (bytes middle rest : List ℕ) → map_head_at bytes ≡ Ok ((key_number, number, n), middle) → pairs_at (pair_with (part_with one key_number) (part_with one number)) n middle ≡ Ok (ps, rest)
    → map_with one bytes ≡ Ok ((key_number, number, ps), rest)
unfolding map_with
map_with_again one key_number number n ps bytes middle rest h there = rw (h, there) refl

struct_with_again : (one : Kind → Parse Value) (fs : Fields) (text rest : List ℕ) → fields_at (field_with one) (length (text ++ rest)) (pos 0) (text ++ rest) ≡ Ok (fs, rest) → struct_with one (text ++ rest) ≡ Ok (fs, rest)
unfolding struct_with
struct_with_again one fs text rest there = there

pub field_kind : (one : Kind → Parse Value) (kind k : Kind) (bytes : List ℕ) → kind ≡ k → field_with one k bytes ≡ one k bytes → field_with one kind bytes ≡ one kind bytes
field_kind one kind k bytes e same = ap (λ (j : Kind). field_with one j bytes) e ∙ same ∙ ap (λ (j : Kind). one j bytes) (sym e)

-- a value in a field, where one in a list is read again
pub field_again : (one : Kind → Parse Value) (v : Value) (kind : Kind) (text rest : List ℕ) → ((t : List ℕ) → IsElement v kind t → one kind (t ++ rest) ≡ Ok (v, rest)) → InField v (IsElement v) kind text → field_with one kind (text ++ rest) ≡ Ok (v, rest)
field_again one (truth true) kind text rest again h =
    ap (λ (t : List ℕ). field_with one kind (t ++ rest)) h.1 ∙ ap (λ (j : Kind). field_with one j rest) h.0 ∙ ap (λ (j : Kind). one j (1 ∷ rest)) (sym h.0) ∙ again (1 ∷ []) (inl h.0, 1, refl, refl)
field_again one (truth false) kind text rest again h =
    ap (λ (t : List ℕ). field_with one kind (t ++ rest)) h.1 ∙ ap (λ (j : Kind). field_with one j rest) h.0 ∙ ap (λ (j : Kind). one j (2 ∷ rest)) (sym h.0) ∙ again (2 ∷ []) (inr h.0, 2, refl, refl)
field_again one (int8 z) kind text rest again h = field_kind one kind kinds.I8 (text ++ rest) h.0 refl ∙ again text h
field_again one (int16 z) kind text rest again h = field_kind one kind kinds.I16 (text ++ rest) h.0 refl ∙ again text h
field_again one (int32 z) kind text rest again h = field_kind one kind kinds.I32 (text ++ rest) h.0 refl ∙ again text h
field_again one (int64 z) kind text rest again h = field_kind one kind kinds.I64 (text ++ rest) h.0 refl ∙ again text h
field_again one (double s) kind text rest again h = field_kind one kind kinds.Double (text ++ rest) h.0 refl ∙ again text h
field_again one (binary s) kind text rest again h = field_kind one kind kinds.Binary (text ++ rest) h.0 refl ∙ again text h
field_again one (list number vs) kind text rest again h = field_kind one kind kinds.List (text ++ rest) h.0 refl ∙ again text h
field_again one (set number vs) kind text rest again h = field_kind one kind kinds.Set (text ++ rest) h.0 refl ∙ again text h
field_again one (map key_number number ps) kind text rest again h = field_kind one kind kinds.Map (text ++ rest) h.0 refl ∙ again text h
field_again one (struct fs) kind text rest again h = field_kind one kind kinds.Struct (text ++ rest) h.0 refl ∙ again text h

-- an element of kind k, where its reader gives x
element_kind : {A : Type 0} (d : ℕ) (kind k : Kind) (text rest : List ℕ) (read : Result (A × List ℕ) Fault) (x : A) (f : A → Value) → kind ≡ k → element_at d k (text ++ rest) ≡ (read >>= with f) → read ≡ Ok (x, rest) → element_at d kind (text ++ rest) ≡ Ok (f x, rest)
element_kind d kind k text rest read x f e same is = ap (λ (j : Kind). element_at d j (text ++ rest)) e ∙ same ∙ rw is refl

truth_again : (d : ℕ) (kind : Kind) (c : ℕ) (rest : List ℕ) → (kind ≡ kinds.True) ⊎ (kind ≡ kinds.False) → element_at d kind (c ∷ rest) ≡ Ok (truth (eqb c 1), rest)
truth_again d kind c rest h =
    elim h [
      | inl e ↦ ap (λ (j : Kind). element_at d j (c ∷ rest)) e
      | inr e ↦ ap (λ (j : Kind). element_at d j (c ∷ rest)) e
    ]

int8_again : (d : ℕ) (c : ℕ) (rest : List ℕ) → element_at d kinds.I8 (c ∷ rest) ≡ Ok (int8 (cast_signed w8 c), rest)
int8_again d c rest = refl

-- ---- one level of nesting

pub value_at-below : (depth : ℕ) (kind : Kind) (bytes : List ℕ) → 0 < depth → value_at depth kind bytes ≡ element_at (depth - 1) kind bytes
unfolding value_at
value_at-below zero kind bytes h = absurd (omega arith)
value_at-below (suc depth) kind bytes h = let k : depth ≡ suc depth - 1 = omega arith in ap (λ d. element_at d kind bytes) k

-- a truth value in a field's header
pub truth_in_field : (d : ℕ) (b : Bool) (bytes : List ℕ) → 0 < d → field_with (value_at d) (cond b kinds.True kinds.False) bytes ≡ Ok (truth b, bytes)
unfolding value_at
truth_in_field zero b bytes h = absurd (omega arith)
truth_in_field (suc d) true bytes h = refl
truth_in_field (suc d) false bytes h = refl

pub truth_too_deep : (b : Bool) (bytes : List ℕ) → field_with (value_at 0) (cond b kinds.True kinds.False) bytes ≡ Err Deep
unfolding value_at
truth_too_deep true bytes = refl
truth_too_deep false bytes = refl

-- every value nests at least 1
pub depth_some : (v : Value) → 0 < depth v
depth_some (truth b) = omega arith
depth_some (int8 z) = omega arith
depth_some (int16 z) = omega arith
depth_some (int32 z) = omega arith
depth_some (int64 z) = omega arith
depth_some (double s) = omega arith
depth_some (binary s) = omega arith
depth_some (list number vs) = omega arith
depth_some (set number vs) = omega arith
depth_some (map key_number number ps) = omega arith
depth_some (struct fs) = omega arith

-- a value one level down, where its element is read again
below_again : (v : Value) (d : ℕ) (kind : Kind) (bytes rest : List ℕ) → depth v ≤ d → element_at (d - 1) kind bytes ≡ Ok (v, rest) → value_at d kind bytes ≡ Ok (v, rest)
below_again v d kind bytes rest deep e = value_at-below d kind bytes (omega (arith, depth_some v)) ∙ e

pub part_again : (one : Kind → Parse Value) (number : ℕ) (kind : Kind) (v : Value) (bytes rest : List ℕ) → kind_of number ≡ Some kind → one kind bytes ≡ Ok (v, rest) → part_with one number bytes ≡ Ok (v, rest)
part_again one number kind v bytes rest k e = rw k e

-- the head of a map with these pairs
pub map_head_pairs : (ps : Pairs) (key_number number : ℕ) (text body rest : List ℕ) → IsMapHead text key_number number (pair_count ps) → ArePairs ps key_number number body → map_head_at (text ++ rest) ≡ Ok ((key_number, number, pair_count ps), rest)
map_head_pairs no_pairs key_number number text body rest h is = map_head_none text key_number number rest h
map_head_pairs (pair k v ps) key_number number text body rest h is = map_head_some text key_number number (pair_count ps) is.3.0 is.4.0 rest is.3.1 is.4.1 h

mutual
  pub element_again : (v : Value) (d : ℕ) (kind : Kind) (text rest : List ℕ) → IsElement v kind text → depth v ≤ suc d → element_at d kind (text ++ rest) ≡ Ok (v, rest)
  element_again (truth b) d kind text rest h deep = rw (h.2, h.3) (truth_again d kind h.1 rest h.0)
  element_again (int8 z) d kind text rest h deep = rw (h.0, h.2, h.3) (int8_again d h.1 rest)
  element_again (int16 z) d kind text rest h deep = element_kind d kind kinds.I16 text rest (signed_at (2 ^ 16) (text ++ rest)) z int16 h.0 refl (signed_again (2 ^ 16) text z rest h.1)
  element_again (int32 z) d kind text rest h deep = element_kind d kind kinds.I32 text rest (signed_at (2 ^ 32) (text ++ rest)) z int32 h.0 refl (signed_again (2 ^ 32) text z rest h.1)
  element_again (int64 z) d kind text rest h deep = element_kind d kind kinds.I64 text rest (signed_at (2 ^ 64) (text ++ rest)) z int64 h.0 refl (signed_again (2 ^ 64) text z rest h.1)
  element_again (double s) d kind text rest h deep = element_kind d kind kinds.Double text rest (bytes_at 8 (text ++ rest)) s double h.0 refl (bytes_again text s rest h.1 h.2)
  element_again (binary s) d kind text rest h deep = element_kind d kind kinds.Binary text rest (binary_at (text ++ rest)) s binary h.0 refl (binary_again text s rest h.1)
  element_again (list number vs) d kind text rest h deep =
      let regrouped : text ++ rest ≡ h.1 ++ (h.2 ++ rest) = ap (λ (t : List ℕ). t ++ rest) h.5 ∙ append_assoc h.1 h.2 rest in
      let inside = list_with_again (value_at d) number vs h.1 h.2 rest h.3 (values_again vs d number h.2 rest h.4 (omega arith)) in
      element_kind {A = ℕ × Values} d kind kinds.List text rest (list_at d (text ++ rest)) (number, vs) (λ x. list x.0 x.1) h.0 refl (ap (list_at d) regrouped ∙ inside)
  element_again (set number vs) d kind text rest h deep =
      let regrouped : text ++ rest ≡ h.1 ++ (h.2 ++ rest) = ap (λ (t : List ℕ). t ++ rest) h.5 ∙ append_assoc h.1 h.2 rest in
      let inside = list_with_again (value_at d) number vs h.1 h.2 rest h.3 (values_again vs d number h.2 rest h.4 (omega arith)) in
      element_kind {A = ℕ × Values} d kind kinds.Set text rest (list_at d (text ++ rest)) (number, vs) (λ x. set x.0 x.1) h.0 refl (ap (list_at d) regrouped ∙ inside)
  element_again (map key_number number ps) d kind text rest h deep =
      let regrouped : text ++ rest ≡ h.1 ++ (h.2 ++ rest) = ap (λ (t : List ℕ). t ++ rest) h.5 ∙ append_assoc h.1 h.2 rest in
      let head = map_head_pairs ps key_number number h.1 h.2 (h.2 ++ rest) h.3 h.4 in
      let inside = map_with_again (value_at d) key_number number (pair_count ps) ps (h.1 ++ (h.2 ++ rest)) (h.2 ++ rest) rest head (pairs_again ps d key_number number h.2 rest h.4 (omega arith)) in
      element_kind {A = ℕ × ℕ × Pairs} d kind kinds.Map text rest (map_at d (text ++ rest)) (key_number, number, ps) (λ x. map x.0 x.1 x.2) h.0 refl (ap (map_at d) regrouped ∙ inside)
  element_again (struct fs) d kind text rest h deep =
      let inside = fields_again fs d (length (text ++ rest)) (pos 0) text rest h.1 (omega arith) (omega (arith, length-append text rest)) in
      element_kind d kind kinds.Struct text rest (struct_at d (text ++ rest)) fs struct h.0 refl (struct_with_again (value_at d) fs text rest inside)

  values_again : (vs : Values) (d number : ℕ) (text rest : List ℕ) → AreElements vs number text → values_depth vs ≤ d → values_at (part_with (value_at d) number) (count vs) (text ++ rest) ≡ Ok (vs, rest)
  values_again no_values d number text rest h deep = values_none (part_with (value_at d) number) text rest h
  values_again (value v vs) d number text rest h deep =
      let here = below_again v d h.2.0 (h.0 ++ (h.1 ++ rest)) (h.1 ++ rest) (omega arith) (element_again v (d - 1) h.2.0 h.0 (h.1 ++ rest) h.2.2 (omega arith)) in
      ap (λ (t : List ℕ). values_at (part_with (value_at d) number) (suc (count vs)) (t ++ rest)) h.4
      ∙ values_step (part_with (value_at d) number) v vs (count vs) h.0 h.1 rest (part_again (value_at d) number h.2.0 v (h.0 ++ (h.1 ++ rest)) (h.1 ++ rest) h.2.1 here) (values_again vs d number h.1 rest h.3 (omega arith))

  pairs_again : (ps : Pairs) (d key_number number : ℕ) (text rest : List ℕ) → ArePairs ps key_number number text → pairs_depth ps ≤ d → pairs_at (pair_with (part_with (value_at d) key_number) (part_with (value_at d) number)) (pair_count ps) (text ++ rest) ≡ Ok (ps, rest)
  pairs_again no_pairs d key_number number text rest h deep = pairs_none (pair_with (part_with (value_at d) key_number) (part_with (value_at d) number)) text rest h
  pairs_again (pair k v ps) d key_number number text rest h deep =
      let after = h.2 ++ rest in
      let key = below_again k d h.3.0 (h.0 ++ (h.1 ++ after)) (h.1 ++ after) (omega arith) (element_again k (d - 1) h.3.0 h.0 (h.1 ++ after) h.3.2 (omega arith)) in
      let item = below_again v d h.4.0 (h.1 ++ after) after (omega arith) (element_again v (d - 1) h.4.0 h.1 after h.4.2 (omega arith)) in
      ap (λ (t : List ℕ). pairs_at (pair_with (part_with (value_at d) key_number) (part_with (value_at d) number)) (suc (pair_count ps)) (t ++ rest)) h.6
      ∙ pair_step (part_with (value_at d) key_number) (part_with (value_at d) number) k v ps (pair_count ps) h.0 h.1 h.2 rest (part_again (value_at d) key_number h.3.0 k (h.0 ++ (h.1 ++ after)) (h.1 ++ after) h.3.1 key) (part_again (value_at d) number h.4.0 v (h.1 ++ after) after h.4.1 item) (pairs_again ps d key_number number h.2 rest h.5 (omega arith))

  fields_again : (fs : Fields) (d n : ℕ) (last : ℤ) (text rest : List ℕ) → AreFields fs last text → fields_depth fs ≤ d → length text ≤ n → fields_at (field_with (value_at d)) n last (text ++ rest) ≡ Ok (fs, rest)
  fields_again no_fields d n last text rest h deep enough = fields_ended (field_with (value_at d)) n last text rest h enough
  fields_again (field id v fs) d n last text rest h deep enough =
      let sizes = field_sizes last h.1 id h.0 h.2 h.3 text h.4 h.7 in
      let here = field_again (value_at d) v h.0 h.2 (h.3 ++ rest) (λ t e. below_again v d h.0 (t ++ (h.3 ++ rest)) (h.3 ++ rest) (omega arith) (element_again v (d - 1) h.0 t (h.3 ++ rest) e (omega arith))) h.5 in
      let there = fields_again fs d (n - 1) id h.3 rest h.6 (omega arith) (omega (arith, sizes)) in
      ap (λ (t : List ℕ). fields_at (field_with (value_at d)) n last (t ++ rest)) h.7
      ∙ fields_one (field_with (value_at d)) n last id h.0 v fs h.1 h.2 h.3 rest (omega (arith, sizes)) h.4 here there

-- what is spelled as a value of a kind is read as one
pub value_again : (d : ℕ) (v : Value) (kind : Kind) (text rest : List ℕ) → IsElement v kind text → depth v ≤ d → value_at d kind (text ++ rest) ≡ Ok (v, rest)
value_again d v kind text rest h deep = below_again v d kind (text ++ rest) rest deep (element_again v (d - 1) kind text rest h (omega arith))

-- what is spelled as a struct is read as one
pub struct_again : (d : ℕ) (v : Value) (text rest : List ℕ) → IsElement v kinds.Struct text → depth v ≤ d → value_at d kinds.Struct (text ++ rest) ≡ Ok (v, rest)
struct_again d v text rest h deep = value_again d v kinds.Struct text rest h deep
