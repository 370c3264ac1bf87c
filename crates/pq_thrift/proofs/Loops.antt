-- Reading values one after the other, as a loop does.
use Rattle.std.proofs.Common.{◌≡◌, ℕ, zero, suc, ℤ, ◌-◌, ◌+◌, ◌≤◌, ◌<◌, List, [], ◌∷◌, ◌++◌, length, Some, None, Result, Ok, Err, refl, sym, ap, ◌∙◌, arith}
use Rattle.pq_thrift.specs.declared.fault.Fault.{Fault}
use Rattle.pq_thrift.specs.declared.fault.Refusal.{Refusal}
use Rattle.pq_thrift.specs.declared.fault.Refusal.TheVariants as refusals
use Rattle.pq_thrift.specs.declared.kind.Kind.{Kind}
use Rattle.pq_thrift.specs.declared.value.Thrift.{Thrift}
use Rattle.pq_thrift.specs.Parse.{◌>>=◌, Parse, Fails}
use Rattle.pq_thrift.specs.Value.{Value, view, Values, no_values, value, values_view, Pairs, no_pairs, pair, pair_view, pairs_view, Fields, no_fields, field, fields_view}
use Rattle.pq_thrift.specs.Reading.{field_head_at, values_at, pairs_at, fields_at}

-- what is read, with f of its value
abbrev pub under : {A B : Type 0} → (A → B) → Result (A × List ℕ) Fault → Result (B × List ℕ) Fault
under f read = read >>= λ x. Ok (f x.0, x.1)

-- ---- values

abbrev pub before_values : List Thrift → Values → Values
before_values [] more = more
before_values (v ∷ vs) more = value (view v) (before_values vs more)

values_alone : (vs : List Thrift) → before_values vs no_values ≡ values_view vs
values_alone [] = refl
values_alone (v ∷ vs) = ap (value (view v)) (values_alone vs)

one_value : (vs : List Thrift) (v : Thrift) (more : Values) → before_values (vs ++ v ∷ []) more ≡ before_values vs (value (view v) more)
one_value [] v more = refl
one_value (w ∷ vs) v more = ap (value (view w)) (one_value vs v more)

values_regroup : (front : List Thrift) (v : Thrift) (read : Result (Values × List ℕ) Fault)
    → under (before_values front) (read >>= λ x. Ok (value (view v) x.0, x.1)) ≡ under (before_values (front ++ v ∷ [])) read
values_regroup front v (Ok x) = ap (λ (vs : Values). Ok (vs, x.1)) (sym (one_value front v x.0))
values_regroup front v (Err f) = refl

pub values_go_on : (one : Parse Value) (front : List Thrift) (count i : ℕ) (bytes : List ℕ) (v : Thrift) (after : List ℕ) (total : Result (Values × List ℕ) Fault) → i < count → one bytes ≡ Ok (view v, after)
    → under (before_values front) (values_at one (count - i) bytes) ≡ total → under (before_values (front ++ v ∷ [])) (values_at one (count - (i + 1)) after) ≡ total
unfolding values_at
values_go_on one front count i bytes v after total lt h so_far =
    let k : count - i ≡ suc (count - (i + 1)) = omega arith in
    let step : under (before_values front) (values_at one (count - i) bytes) ≡ under (before_values (front ++ v ∷ [])) (values_at one (count - (i + 1)) after) = rw (k, h) (values_regroup front v (values_at one (count - (i + 1)) after)) in
    sym step ∙ so_far

pub values_fail : (e : Refusal) (one : Parse Value) (front : List Thrift) (count i : ℕ) (bytes : List ℕ) (total : Result (Values × List ℕ) Fault) → i < count → Fails e (one bytes)
    → under (before_values front) (values_at one (count - i) bytes) ≡ total → Fails e total
unfolding values_at
values_fail refusals.Memory one front count i bytes total lt h so_far = tt
values_fail (refusals.Fault f) one front count i bytes total lt h so_far =
    let k : count - i ≡ suc (count - (i + 1)) = omega arith in
    let step : under (before_values front) (values_at one (count - i) bytes) ≡ Err f = rw (k, h) refl in
    sym so_far ∙ step

pub values_end : (one : Parse Value) (front : List Thrift) (count i : ℕ) (bytes : List ℕ) (total : Result (Values × List ℕ) Fault) → count ≤ i
    → under (before_values front) (values_at one (count - i) bytes) ≡ total → total ≡ Ok (values_view front, bytes)
unfolding values_at
values_end one front count i bytes total le so_far =
    let k : count - i ≡ 0 = omega arith in
    let step : under (before_values front) (values_at one (count - i) bytes) ≡ Ok (values_view front, bytes) = rw k (ap (λ (vs : Values). Ok (vs, bytes)) (values_alone front)) in
    sym so_far ∙ step

-- ---- pairs

abbrev pub before_pairs : List (Thrift × Thrift) → Pairs → Pairs
before_pairs [] more = more
before_pairs (p ∷ ps) more = pair (view p.0) (view p.1) (before_pairs ps more)

pairs_alone : (ps : List (Thrift × Thrift)) → before_pairs ps no_pairs ≡ pairs_view ps
pairs_alone [] = refl
pairs_alone (p ∷ ps) = ap (pair (view p.0) (view p.1)) (pairs_alone ps)

one_pair : (ps : List (Thrift × Thrift)) (p : Thrift × Thrift) (more : Pairs) → before_pairs (ps ++ p ∷ []) more ≡ before_pairs ps (pair (view p.0) (view p.1) more)
one_pair [] p more = refl
one_pair (q ∷ ps) p more = ap (pair (view q.0) (view q.1)) (one_pair ps p more)

pairs_regroup : (front : List (Thrift × Thrift)) (p : Thrift × Thrift) (read : Result (Pairs × List ℕ) Fault)
    → under (before_pairs front) (read >>= λ x. Ok (pair (view p.0) (view p.1) x.0, x.1)) ≡ under (before_pairs (front ++ p ∷ [])) read
pairs_regroup front p (Ok x) = ap (λ (ps : Pairs). Ok (ps, x.1)) (sym (one_pair front p x.0))
pairs_regroup front p (Err f) = refl

pub pairs_go_on : (one : Parse (Value × Value)) (front : List (Thrift × Thrift)) (count i : ℕ) (bytes : List ℕ) (p : Thrift × Thrift) (after : List ℕ) (total : Result (Pairs × List ℕ) Fault) → i < count → one bytes ≡ Ok (pair_view p, after)
    → under (before_pairs front) (pairs_at one (count - i) bytes) ≡ total → under (before_pairs (front ++ p ∷ [])) (pairs_at one (count - (i + 1)) after) ≡ total
unfolding pairs_at
pairs_go_on one front count i bytes p after total lt h so_far =
    let k : count - i ≡ suc (count - (i + 1)) = omega arith in
    let step : under (before_pairs front) (pairs_at one (count - i) bytes) ≡ under (before_pairs (front ++ p ∷ [])) (pairs_at one (count - (i + 1)) after) = rw (k, h) (pairs_regroup front p (pairs_at one (count - (i + 1)) after)) in
    sym step ∙ so_far

pub pairs_fail : (e : Refusal) (one : Parse (Value × Value)) (front : List (Thrift × Thrift)) (count i : ℕ) (bytes : List ℕ) (total : Result (Pairs × List ℕ) Fault) → i < count → Fails e (one bytes)
    → under (before_pairs front) (pairs_at one (count - i) bytes) ≡ total → Fails e total
unfolding pairs_at
pairs_fail refusals.Memory one front count i bytes total lt h so_far = tt
pairs_fail (refusals.Fault f) one front count i bytes total lt h so_far =
    let k : count - i ≡ suc (count - (i + 1)) = omega arith in
    let step : under (before_pairs front) (pairs_at one (count - i) bytes) ≡ Err f = rw (k, h) refl in
    sym so_far ∙ step

pub pairs_end : (one : Parse (Value × Value)) (front : List (Thrift × Thrift)) (count i : ℕ) (bytes : List ℕ) (total : Result (Pairs × List ℕ) Fault) → count ≤ i
    → under (before_pairs front) (pairs_at one (count - i) bytes) ≡ total → total ≡ Ok (pairs_view front, bytes)
unfolding pairs_at
pairs_end one front count i bytes total le so_far =
    let k : count - i ≡ 0 = omega arith in
    let step : under (before_pairs front) (pairs_at one (count - i) bytes) ≡ Ok (pairs_view front, bytes) = rw k (ap (λ (ps : Pairs). Ok (ps, bytes)) (pairs_alone front)) in
    sym so_far ∙ step

-- ---- fields

abbrev pub before_fields : List (ℤ × Thrift) → Fields → Fields
before_fields [] more = more
before_fields (f ∷ fs) more = field f.0 (view f.1) (before_fields fs more)

fields_alone : (fs : List (ℤ × Thrift)) → before_fields fs no_fields ≡ fields_view fs
fields_alone [] = refl
fields_alone (f ∷ fs) = ap (field f.0 (view f.1)) (fields_alone fs)

one_field : (fs : List (ℤ × Thrift)) (f : ℤ × Thrift) (more : Fields) → before_fields (fs ++ f ∷ []) more ≡ before_fields fs (field f.0 (view f.1) more)
one_field [] f more = refl
one_field (g ∷ fs) f more = ap (field g.0 (view g.1)) (one_field fs f more)

fields_regroup : (front : List (ℤ × Thrift)) (f : ℤ × Thrift) (read : Result (Fields × List ℕ) Fault)
    → under (before_fields front) (read >>= λ x. Ok (field f.0 (view f.1) x.0, x.1)) ≡ under (before_fields (front ++ f ∷ [])) read
fields_regroup front f (Ok x) = ap (λ (fs : Fields). Ok (fs, x.1)) (sym (one_field front f x.0))
fields_regroup front f (Err e) = refl

-- What is read from here, behind the fields before, is all that is read. The number bounds the turns that are left.
pub record Reads (one : Kind → Parse Value) (front : List (ℤ × Thrift)) (last : ℤ) (bytes : List ℕ) (total : Result (Fields × List ℕ) Fault) : Type 0 where
  pub turns : ℕ
  pub enough : length bytes ≤ turns
  pub so_far : under (before_fields front) (fields_at one turns last bytes) ≡ total

pub fields_begin : (one : Kind → Parse Value) (last : ℤ) (bytes : List ℕ) → Reads one [] last bytes (fields_at one (length bytes) last bytes)
fields_begin one last bytes = record { turns = length bytes; enough = omega arith; so_far = nothing_before (fields_at one (length bytes) last bytes) } where
  nothing_before : (read : Result (Fields × List ℕ) Fault) → under (before_fields []) read ≡ read
  nothing_before (Ok x) = refl
  nothing_before (Err f) = refl

pub fields_go_on : (one : Kind → Parse Value) (front : List (ℤ × Thrift)) (last : ℤ) (bytes : List ℕ) (total : Result (Fields × List ℕ) Fault) (id : ℤ) (kind : Kind) (middle : List ℕ) (v : Thrift) (after : List ℕ)
    → field_head_at last bytes ≡ Ok (Some (id, kind), middle) → one kind middle ≡ Ok (view v, after) → length after < length bytes
    → Reads one front last bytes total → Reads one (front ++ (id, v) ∷ []) id after total
unfolding fields_at
fields_go_on one front last bytes total id kind middle v after head first shorter r =
    let n = r.turns - 1 in
    let k : r.turns ≡ suc n = omega (arith, r.enough) in
    let step : under (before_fields front) (fields_at one (suc n) last bytes) ≡ under (before_fields (front ++ (id, v) ∷ [])) (fields_at one n id after) = rw (head, first) (fields_regroup front (id, v) (fields_at one n id after)) in
    record { turns = n; enough = omega (arith, r.enough); so_far = sym step ∙ rw k at r.so_far }

head_fails_within : (n : ℕ) (e : Refusal) (one : Kind → Parse Value) (front : List (ℤ × Thrift)) (last : ℤ) (bytes : List ℕ) (total : Result (Fields × List ℕ) Fault)
    → length bytes ≤ n → Fails e (field_head_at last bytes) → under (before_fields front) (fields_at one n last bytes) ≡ total → Fails e total
unfolding fields_at field_head_at
head_fails_within n refusals.Memory one front last bytes total enough head so_far = tt
head_fails_within zero (refusals.Fault f) one front last [] total enough head so_far = sym so_far ∙ ap (under (before_fields front)) (ap Err cc)
head_fails_within zero (refusals.Fault f) one front last (b ∷ bytes) total enough head so_far = absurd (omega arith)
head_fails_within (suc n) (refusals.Fault f) one front last bytes total enough head so_far =
    let step : under (before_fields front) (fields_at one (suc n) last bytes) ≡ Err f = rw head refl in
    sym so_far ∙ step

pub head_fails : (e : Refusal) (one : Kind → Parse Value) (front : List (ℤ × Thrift)) (last : ℤ) (bytes : List ℕ) (total : Result (Fields × List ℕ) Fault)
    → Fails e (field_head_at last bytes) → Reads one front last bytes total → Fails e total
head_fails e one front last bytes total head r = head_fails_within r.turns e one front last bytes total r.enough head r.so_far

pub field_fails : (e : Refusal) (one : Kind → Parse Value) (front : List (ℤ × Thrift)) (last : ℤ) (bytes : List ℕ) (total : Result (Fields × List ℕ) Fault) (id : ℤ) (kind : Kind) (middle : List ℕ)
    → field_head_at last bytes ≡ Ok (Some (id, kind), middle) → length middle < length bytes → Fails e (one kind middle) → Reads one front last bytes total → Fails e total
unfolding fields_at
field_fails refusals.Memory one front last bytes total id kind middle head shorter first r = tt
field_fails (refusals.Fault f) one front last bytes total id kind middle head shorter first r =
    let n = r.turns - 1 in
    let k : r.turns ≡ suc n = omega (arith, r.enough) in
    let step : under (before_fields front) (fields_at one (suc n) last bytes) ≡ Err f = rw (head, first) refl in
    sym (rw k at r.so_far) ∙ step

pub fields_end : (one : Kind → Parse Value) (front : List (ℤ × Thrift)) (last : ℤ) (bytes : List ℕ) (total : Result (Fields × List ℕ) Fault) (after : List ℕ)
    → field_head_at last bytes ≡ Ok (None, after) → length after < length bytes → Reads one front last bytes total → total ≡ Ok (fields_view front, after)
unfolding fields_at
fields_end one front last bytes total after head shorter r =
    let n = r.turns - 1 in
    let k : r.turns ≡ suc n = omega (arith, r.enough) in
    let step : under (before_fields front) (fields_at one (suc n) last bytes) ≡ Ok (fields_view front, after) = rw head (ap (λ (fs : Fields). Ok (fs, after)) (fields_alone front)) in
    sym (rw k at r.so_far) ∙ step
