-- Triples with other values at the same levels.
use Rattle.std.proofs.Common.{◌≡◌, ℕ, zero, suc, ◌+◌, Bool, true, false, is_some, nat_eq, cond, Option, Some, None, List, [], ◌∷◌, map, All, refl, ap, sym, ◌∙◌}
use Rattle.std.specs.Prelude.{option_map}
use Rattle.std.specs.List.{cons_option}
use Rattle.std.proofs.lemmas.List.Elements.{All-nil, All-cons, All-head, All-tail}
use Rattle.std.proofs.lemmas.List.Sums.{sum_by-cons}
use Rattle.shredding.specs.Laws.{BeginsRow, first_rows, starts_row}
use Rattle.shredding.specs.Shred.{Triple}
use Rattle.shredding.specs.Slot.{Value}
use Rattle.pq_files.specs.Page.{rows_in, values_in}
use Rattle.pq_files.specs.RowReasons.{without_value}
use Rattle.dictionary_columns.specs.Keys.{with_value}

pub reps-with : (f : Value → Value) (ts : List Triple) → map (λ t. t.repetition) (map (with_value f) ts) ≡ map (λ t. t.repetition) ts
reps-with f [] = refl
reps-with f (t ∷ ts) = ap (λ (ns : List ℕ). t.repetition ∷ ns) (reps-with f ts)

pub defs-with : (f : Value → Value) (ts : List Triple) → map (λ t. t.definition) (map (with_value f) ts) ≡ map (λ t. t.definition) ts
defs-with f [] = refl
defs-with f (t ∷ ts) = ap (λ (ns : List ℕ). t.definition ∷ ns) (defs-with f ts)

pub without-with : (f : Value → Value) (ts : List Triple) → map without_value (map (with_value f) ts) ≡ map without_value ts
without-with f [] = refl
without-with f (t ∷ ts) = ap (λ (us : List Triple). without_value t ∷ us) (without-with f ts)

pub rows-with : (f : Value → Value) (ts : List Triple) → rows_in (map (with_value f) ts) ≡ rows_in ts
rows-with f [] = refl
rows-with f (t ∷ ts) =
    sum_by-cons (λ (u : Triple). cond (nat_eq u.repetition 0) 1 0) (with_value f t) (map (with_value f) ts)
    ∙ (ap (λ (n : ℕ). cond (nat_eq t.repetition 0) 1 0 + n) (rows-with f ts) ∙ sym (sum_by-cons (λ (u : Triple). cond (nat_eq u.repetition 0) 1 0) t ts))

values-cons : (f : Value → Value) (o : Option Value) (vs : List Value) → cons_option (option_map f o) (map f vs) ≡ map f (cons_option o vs)
values-cons f None vs = refl
values-cons f (Some v) vs = refl

pub values-with : (f : Value → Value) (ts : List Triple) → values_in (map (with_value f) ts) ≡ map f (values_in ts)
values-with f [] = refl
values-with f (t ∷ ts) = ap (cons_option (option_map f t.value)) (values-with f ts) ∙ values-cons f t.value (values_in ts)

is-some-with : (f : Value → Value) (o : Option Value) → is_some (option_map f o) ≡ is_some o
is-some-with f None = refl
is-some-with f (Some v) = refl

pub present-with : (f : Value → Value) (top : ℕ) (ts : List Triple) → All (λ t. is_some t.value ≡ nat_eq t.definition top) ts → All (λ t. is_some t.value ≡ nat_eq t.definition top) (map (with_value f) ts)
present-with f top [] a = All-nil (λ (t : Triple). is_some t.value ≡ nat_eq t.definition top)
present-with f top (t ∷ ts) a =
    let P : Triple → Type 0 = λ u. is_some u.value ≡ nat_eq u.definition top in
    All-cons P (with_value f t) (map (with_value f) ts) (is-some-with f t.value ∙ All-head P t ts a) (present-with f top ts (All-tail P t ts a))

pub present-without : (f : Value → Value) (top : ℕ) (ts : List Triple) → All (λ t. is_some t.value ≡ nat_eq t.definition top) (map (with_value f) ts) → All (λ t. is_some t.value ≡ nat_eq t.definition top) ts
present-without f top [] a = All-nil (λ (t : Triple). is_some t.value ≡ nat_eq t.definition top)
present-without f top (t ∷ ts) a =
    let P : Triple → Type 0 = λ u. is_some u.value ≡ nat_eq u.definition top in
    All-cons P t ts (sym (is-some-with f t.value) ∙ All-head P (with_value f t) (map (with_value f) ts) a) (present-without f top ts (All-tail P (with_value f t) (map (with_value f) ts) a))

pub begins-with : (f : Value → Value) (ts : List Triple) → BeginsRow ts → BeginsRow (map (with_value f) ts)
begins-with f [] b = tt
begins-with f (t ∷ ts) b = b

pub begins-without : (f : Value → Value) (ts : List Triple) → BeginsRow (map (with_value f) ts) → BeginsRow ts
begins-without f [] b = tt
begins-without f (t ∷ ts) b = b

first-step : (f : Value → Value) (b : Bool) (t : Triple) (k : ℕ) (ts us : List Triple) → us ≡ map (with_value f) ts → cond b [] (with_value f t ∷ us) ≡ map (with_value f) (cond b [] (t ∷ ts))
first-step f true t k ts us e = refl
first-step f false t k ts us e = ap (λ (xs : List Triple). with_value f t ∷ xs) e

pub first-with : (f : Value → Value) (k : ℕ) (ts : List Triple) → first_rows k (map (with_value f) ts) ≡ map (with_value f) (first_rows k ts)
first-with f zero [] = refl
first-with f (suc k) [] = refl
first-with f zero (t ∷ ts) = first-step f (starts_row t) t zero (first_rows zero ts) (first_rows zero (map (with_value f) ts)) (first-with f zero ts)
first-with f (suc k) (t ∷ ts) = ap (λ (xs : List Triple). with_value f t ∷ xs) (first-with f (cond (starts_row t) k (suc k)) ts)

-- ---- values put into triples again

pub record Refilled (f : Value → Value) (ys : List Triple) (vs : List Value) : Type 0 where
  pub triples : List Triple
  pub are : map (with_value f) triples ≡ ys
  pub values : values_in triples ≡ vs

refill-step : (f : Value → Value) (y : Triple) (ys : List Triple) (o : Option Value) (vs : List Value) → y.value ≡ o → map f vs ≡ cons_option o (values_in ys) → ((us : List Value) → map f us ≡ values_in ys → Refilled f ys us) → Refilled f (y ∷ ys) vs
refill-step f y ys None vs n e rest =
    let r = rest vs e in
    let t : Triple = record { repetition = y.repetition; definition = y.definition; value = None } in
    let same : with_value f t ≡ y = ap (λ (o : Option Value). (let u : Triple = record { repetition = y.repetition; definition = y.definition; value = o } in u)) (sym n) in
    record { triples = t ∷ r.triples; are = cc (same, r.are); values = r.values }
refill-step f y ys (Some v) [] s e rest = absurd (cc e)
refill-step f y ys (Some v) (w ∷ ws) s e rest =
    let tail : map f ws ≡ values_in ys = cc e in
    let head : f w ≡ v = cc e in
    let r = rest ws tail in
    let t : Triple = record { repetition = y.repetition; definition = y.definition; value = Some w } in
    let same : with_value f t ≡ y = ap (λ (o : Option Value). (let u : Triple = record { repetition = y.repetition; definition = y.definition; value = o } in u)) (ap Some head ∙ sym s) in
    record { triples = t ∷ r.triples; are = cc (same, r.are); values = ap (λ (us : List Value). w ∷ us) r.values }

pub refilled : (f : Value → Value) (ys : List Triple) (vs : List Value) → map f vs ≡ values_in ys → Refilled f ys vs
refilled f [] [] e = record { triples = []; are = refl; values = refl }
refilled f [] (v ∷ vs) e = absurd (cc e)
refilled f (y ∷ ys) vs e = refill-step f y ys y.value vs refl e (λ us h. refilled f ys us h)
