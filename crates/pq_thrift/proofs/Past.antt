-- A value of the grammar that nests past the number is too deep.
use Rattle.std.proofs.Common.{◌≡◌, ℕ, zero, suc, ℤ, pos, ◌-◌, ◌<◌, ◌≤◌, List, [], ◌∷◌, ◌++◌, length, true, false, Some, Ok, Err, refl, sym, ap, ◌∙◌, append_assoc, inl, inr, arith}
use Rattle.std.proofs.lemmas.Bool.{cases_lt}
use Rattle.std.proofs.lemmas.List.{length-append}
use Rattle.pq_thrift.specs.declared.fault.Fault.TheVariants.{Deep}
use Rattle.pq_thrift.specs.declared.kind.Kind.{Kind}
use Rattle.pq_thrift.specs.declared.kind.Kind.TheVariants as kinds
use Rattle.pq_thrift.specs.Parse.{Parse}
use Rattle.pq_thrift.specs.Value.{Value, truth, int8, int16, int32, int64, double, binary, list, set, map, struct, Values, no_values, value, Pairs, no_pairs, pair, Fields, no_fields, field}
use Rattle.pq_thrift.specs.Reading.{field_with, part_with, values_at, pair_with, pairs_at, field_head_at, fields_at, struct_with, value_at, list_at, map_at, struct_at, element_at}
use Rattle.pq_thrift.specs.Grammar.{IsElement, InField, AreElements, ArePairs, AreFields, count, pair_count, depth, values_depth, pairs_depth, fields_depth}
use Rattle.pq_thrift.proofs.Again.{list_head_again, map_head_pairs, field_head_again, value_again, part_again, field_again, field_kind, field_sizes}
use Rattle.pq_thrift.proofs.Deep.{value_then, after_key, pair_then, field_then, list_then, map_then, element_too_deep, known_too_deep}

-- a value one level down, where its element is too deep
below_past : (v : Value) (d : ℕ) (kind : Kind) (bytes : List ℕ) → (0 < d → element_at (d - 1) kind bytes ≡ Err Deep) → value_at d kind bytes ≡ Err Deep
unfolding value_at
below_past v zero kind bytes e = refl
below_past v (suc d) kind bytes e = let k : suc d - 1 ≡ d = omega arith in rw k at (e (omega arith))

value_first : (one : Parse Value) (n : ℕ) (bytes : List ℕ) → one bytes ≡ Err Deep → values_at one (suc n) bytes ≡ Err Deep
unfolding values_at
value_first one n bytes e = rw e refl

key_first : (keys items : Parse Value) (n : ℕ) (bytes : List ℕ) → keys bytes ≡ Err Deep → pairs_at (pair_with keys items) (suc n) bytes ≡ Err Deep
unfolding pairs_at pair_with
key_first keys items n bytes e = rw e refl

item_first : (keys items : Parse Value) (n : ℕ) (bytes : List ℕ) (k : Value) (middle : List ℕ) → keys bytes ≡ Ok (k, middle) → items middle ≡ Err Deep → pairs_at (pair_with keys items) (suc n) bytes ≡ Err Deep
unfolding pairs_at
item_first keys items n bytes k middle key e = rw (after_key keys items bytes k middle key e) refl

field_first : (one : Kind → Parse Value) (n : ℕ) (last : ℤ) (bytes : List ℕ) (id : ℤ) (kind : Kind) (middle : List ℕ) → field_head_at last bytes ≡ Ok (Some (id, kind), middle) → one kind middle ≡ Err Deep → fields_at one (suc n) last bytes ≡ Err Deep
unfolding fields_at
field_first one n last bytes id kind middle head e = rw (head, e) refl

-- a value in a field, where one that is spelled is too deep
field_past : (d : ℕ) (v : Value) (kind : Kind) (text rest : List ℕ) → ((t : List ℕ) → IsElement v kind t → value_at d kind (t ++ rest) ≡ Err Deep) → InField v (IsElement v) kind text → field_with (value_at d) kind (text ++ rest) ≡ Err Deep
field_past d (truth true) kind text rest past h =
    ap (λ (t : List ℕ). field_with (value_at d) kind (t ++ rest)) h.1 ∙ ap (λ (j : Kind). field_with (value_at d) j rest) h.0 ∙ ap (λ (j : Kind). value_at d j (1 ∷ rest)) (sym h.0) ∙ past (1 ∷ []) (inl h.0, 1, refl, refl)
field_past d (truth false) kind text rest past h =
    ap (λ (t : List ℕ). field_with (value_at d) kind (t ++ rest)) h.1 ∙ ap (λ (j : Kind). field_with (value_at d) j rest) h.0 ∙ ap (λ (j : Kind). value_at d j (2 ∷ rest)) (sym h.0) ∙ past (2 ∷ []) (inr h.0, 2, refl, refl)
field_past d (int8 z) kind text rest past h = field_kind (value_at d) kind kinds.I8 (text ++ rest) h.0 refl ∙ past text h
field_past d (int16 z) kind text rest past h = field_kind (value_at d) kind kinds.I16 (text ++ rest) h.0 refl ∙ past text h
field_past d (int32 z) kind text rest past h = field_kind (value_at d) kind kinds.I32 (text ++ rest) h.0 refl ∙ past text h
field_past d (int64 z) kind text rest past h = field_kind (value_at d) kind kinds.I64 (text ++ rest) h.0 refl ∙ past text h
field_past d (double s) kind text rest past h = field_kind (value_at d) kind kinds.Double (text ++ rest) h.0 refl ∙ past text h
field_past d (binary s) kind text rest past h = field_kind (value_at d) kind kinds.Binary (text ++ rest) h.0 refl ∙ past text h
field_past d (list number vs) kind text rest past h = field_kind (value_at d) kind kinds.List (text ++ rest) h.0 refl ∙ past text h
field_past d (set number vs) kind text rest past h = field_kind (value_at d) kind kinds.Set (text ++ rest) h.0 refl ∙ past text h
field_past d (map key_number number ps) kind text rest past h = field_kind (value_at d) kind kinds.Map (text ++ rest) h.0 refl ∙ past text h
field_past d (struct fs) kind text rest past h = field_kind (value_at d) kind kinds.Struct (text ++ rest) h.0 refl ∙ past text h

struct_past : (fs : Fields) (d : ℕ) (text rest : List ℕ) → fields_at (field_with (value_at d)) (length (text ++ rest)) (pos 0) (text ++ rest) ≡ Err Deep → struct_at d (text ++ rest) ≡ Err Deep
unfolding struct_with
struct_past fs d text rest e = e

mutual
  element_past : (v : Value) (d : ℕ) (kind : Kind) (text rest : List ℕ) → IsElement v kind text → suc d < depth v → element_at d kind (text ++ rest) ≡ Err Deep
  element_past (truth b) d kind text rest h deep = absurd (omega arith)
  element_past (int8 z) d kind text rest h deep = absurd (omega arith)
  element_past (int16 z) d kind text rest h deep = absurd (omega arith)
  element_past (int32 z) d kind text rest h deep = absurd (omega arith)
  element_past (int64 z) d kind text rest h deep = absurd (omega arith)
  element_past (double s) d kind text rest h deep = absurd (omega arith)
  element_past (binary s) d kind text rest h deep = absurd (omega arith)
  element_past (list number vs) d kind text rest h deep =
      let regrouped : text ++ rest ≡ h.1 ++ (h.2 ++ rest) = ap (λ (t : List ℕ). t ++ rest) h.5 ∙ append_assoc h.1 h.2 rest in
      let head = list_head_again h.1 number (count vs) (h.2 ++ rest) h.3 in
      let inside : list_at d (text ++ rest) ≡ Err Deep = ap (list_at d) regrouped ∙ list_then (value_at d) number (count vs) (h.1 ++ (h.2 ++ rest)) (h.2 ++ rest) head (values_past vs d number h.2 rest h.4 (omega arith)) in
      element_too_deep d kind kinds.List (text ++ rest) h.0 (rw inside refl)
  element_past (set number vs) d kind text rest h deep =
      let regrouped : text ++ rest ≡ h.1 ++ (h.2 ++ rest) = ap (λ (t : List ℕ). t ++ rest) h.5 ∙ append_assoc h.1 h.2 rest in
      let head = list_head_again h.1 number (count vs) (h.2 ++ rest) h.3 in
      let inside : list_at d (text ++ rest) ≡ Err Deep = ap (list_at d) regrouped ∙ list_then (value_at d) number (count vs) (h.1 ++ (h.2 ++ rest)) (h.2 ++ rest) head (values_past vs d number h.2 rest h.4 (omega arith)) in
      element_too_deep d kind kinds.Set (text ++ rest) h.0 (rw inside refl)
  element_past (map key_number number ps) d kind text rest h deep =
      let regrouped : text ++ rest ≡ h.1 ++ (h.2 ++ rest) = ap (λ (t : List ℕ). t ++ rest) h.5 ∙ append_assoc h.1 h.2 rest in
      let head = map_head_pairs ps key_number number h.1 h.2 (h.2 ++ rest) h.3 h.4 in
      let inside : map_at d (text ++ rest) ≡ Err Deep = ap (map_at d) regrouped ∙ map_then (value_at d) key_number number (pair_count ps) (h.1 ++ (h.2 ++ rest)) (h.2 ++ rest) head (pairs_past ps d key_number number h.2 rest h.4 (omega arith)) in
      element_too_deep d kind kinds.Map (text ++ rest) h.0 (rw inside refl)
  element_past (struct fs) d kind text rest h deep =
      let inside = struct_past fs d text rest (fields_past fs d (length (text ++ rest)) (pos 0) text rest h.1 (omega arith) (omega (arith, length-append text rest))) in
      element_too_deep d kind kinds.Struct (text ++ rest) h.0 (rw inside refl)

  values_past : (vs : Values) (d number : ℕ) (text rest : List ℕ) → AreElements vs number text → d < values_depth vs → values_at (part_with (value_at d) number) (count vs) (text ++ rest) ≡ Err Deep
  values_past no_values d number text rest h deep = absurd (omega arith)
  values_past (value v vs) d number text rest h deep =
      let one = part_with (value_at d) number in
      let after = h.1 ++ rest in
      let regrouped : text ++ rest ≡ h.0 ++ after = ap (λ (t : List ℕ). t ++ rest) h.4 ∙ append_assoc h.0 h.1 rest in
      ap (values_at one (suc (count vs))) regrouped
      ∙ elim (cases_lt d (depth v)) [
        | inl past ↦
            let first = known_too_deep (value_at d) number h.2.0 (h.0 ++ after) h.2.1 (below_past v d h.2.0 (h.0 ++ after) (λ some. element_past v (d - 1) h.2.0 h.0 after h.2.2 (omega arith))) in
            value_first one (count vs) (h.0 ++ after) first
        | inr fits ↦
            let first = part_again (value_at d) number h.2.0 v (h.0 ++ after) after h.2.1 (value_again d v h.2.0 h.0 after h.2.2 fits) in
            value_then one (count vs) (h.0 ++ after) v after first (values_past vs d number h.1 rest h.3 (omega arith))
      ]

  pairs_past : (ps : Pairs) (d key_number number : ℕ) (text rest : List ℕ) → ArePairs ps key_number number text → d < pairs_depth ps → pairs_at (pair_with (part_with (value_at d) key_number) (part_with (value_at d) number)) (pair_count ps) (text ++ rest) ≡ Err Deep
  pairs_past no_pairs d key_number number text rest h deep = absurd (omega arith)
  pairs_past (pair k v ps) d key_number number text rest h deep =
      let keys = part_with (value_at d) key_number in
      let items = part_with (value_at d) number in
      let after = h.2 ++ rest in
      let regrouped : text ++ rest ≡ h.0 ++ (h.1 ++ after) = ap (λ (t : List ℕ). t ++ rest) h.6 ∙ append_assoc h.0 (h.1 ++ h.2) rest ∙ ap (λ (t : List ℕ). h.0 ++ t) (append_assoc h.1 h.2 rest) in
      ap (pairs_at (pair_with keys items) (suc (pair_count ps))) regrouped
      ∙ elim (cases_lt d (depth k)) [
        | inl past ↦
            let first = known_too_deep (value_at d) key_number h.3.0 (h.0 ++ (h.1 ++ after)) h.3.1 (below_past k d h.3.0 (h.0 ++ (h.1 ++ after)) (λ some. element_past k (d - 1) h.3.0 h.0 (h.1 ++ after) h.3.2 (omega arith))) in
            key_first keys items (pair_count ps) (h.0 ++ (h.1 ++ after)) first
        | inr key_fits ↦
            let key = part_again (value_at d) key_number h.3.0 k (h.0 ++ (h.1 ++ after)) (h.1 ++ after) h.3.1 (value_again d k h.3.0 h.0 (h.1 ++ after) h.3.2 key_fits) in
            elim (cases_lt d (depth v)) [
              | inl past ↦
                  let second = known_too_deep (value_at d) number h.4.0 (h.1 ++ after) h.4.1 (below_past v d h.4.0 (h.1 ++ after) (λ some. element_past v (d - 1) h.4.0 h.1 after h.4.2 (omega arith))) in
                  item_first keys items (pair_count ps) (h.0 ++ (h.1 ++ after)) k (h.1 ++ after) key second
              | inr fits ↦
                  let item = part_again (value_at d) number h.4.0 v (h.1 ++ after) after h.4.1 (value_again d v h.4.0 h.1 after h.4.2 fits) in
                  pair_then keys items (pair_count ps) (h.0 ++ (h.1 ++ after)) k (h.1 ++ after) v after key item (pairs_past ps d key_number number h.2 rest h.5 (omega arith))
            ]
      ]

  fields_past : (fs : Fields) (d n : ℕ) (last : ℤ) (text rest : List ℕ) → AreFields fs last text → d < fields_depth fs → length text ≤ n → fields_at (field_with (value_at d)) n last (text ++ rest) ≡ Err Deep
  fields_past no_fields d n last text rest h deep enough = absurd (omega arith)
  fields_past (field id v fs) d n last text rest h deep enough =
      let one = field_with (value_at d) in
      let after = h.3 ++ rest in
      let sizes = field_sizes last h.1 id h.0 h.2 h.3 text h.4 h.7 in
      let k : n ≡ suc (n - 1) = omega (arith, sizes) in
      let regrouped : text ++ rest ≡ h.1 ++ (h.2 ++ after) = ap (λ (t : List ℕ). t ++ rest) h.7 ∙ append_assoc h.1 (h.2 ++ h.3) rest ∙ ap (λ (t : List ℕ). h.1 ++ t) (append_assoc h.2 h.3 rest) in
      let head = field_head_again last h.1 id h.0 (h.2 ++ after) h.4 in
      ap (λ (m : ℕ). fields_at one m last (text ++ rest)) k
      ∙ ap (fields_at one (suc (n - 1)) last) regrouped
      ∙ elim (cases_lt d (depth v)) [
        | inl past ↦
            let first = field_past d v h.0 h.2 after (λ t p. below_past v d h.0 (t ++ after) (λ some. element_past v (d - 1) h.0 t after p (omega arith))) h.5 in
            field_first one (n - 1) last (h.1 ++ (h.2 ++ after)) id h.0 (h.2 ++ after) head first
        | inr fits ↦
            let first = field_again (value_at d) v h.0 h.2 after (λ t p. value_again d v h.0 t after p fits) h.5 in
            field_then one (n - 1) last (h.1 ++ (h.2 ++ after)) id h.0 (h.2 ++ after) v after head first (fields_past fs d (n - 1) id h.3 rest h.6 (omega arith) (omega (arith, sizes)))
      ]

pub value_past : (d : ℕ) (v : Value) (kind : Kind) (text rest : List ℕ) → IsElement v kind text → d < depth v → value_at d kind (text ++ rest) ≡ Err Deep
value_past d v kind text rest h deep = below_past v d kind (text ++ rest) (λ some. element_past v (d - 1) kind text rest h (omega arith))
