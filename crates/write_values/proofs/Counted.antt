-- How many pairs of a column have no value.
use Rattle.std.proofs.Common.{◌≡◌, ℕ, suc, ◌+◌, cond, List, [], ◌∷◌, length, Some, None, Option, refl, arith, is_none}
use Rattle.std.specs.Prelude.{count_by}
use Rattle.std.proofs.lemmas.List.Sums.{sum_by-cons}
use Rattle.shredding.specs.Shred.{Triple}
use Rattle.shredding.specs.Slot.{Value}
use Rattle.pq_files.specs.Page.{values_in}

count_by-cons : (t : Triple) (ts : List Triple) → count_by (λ u. is_none u.value) (t ∷ ts) ≡ cond (is_none t.value) 1 0 + count_by (λ u. is_none u.value) ts
count_by-cons t ts = sum_by-cons (λ u. cond (is_none u.value) 1 0) t ts

one_more : (r d : ℕ) (v : Option Value) (ts : List Triple) → count_by (λ t. is_none t.value) ts + length (values_in ts) ≡ length ts → count_by (λ t. is_none t.value) (record { repetition = r; definition = d; value = v } ∷ ts) + length (values_in (record { repetition = r; definition = d; value = v } ∷ ts)) ≡ suc (length ts)
one_more r d None ts h = omega (arith, h, count_by-cons (record { repetition = r; definition = d; value = None }) ts)
one_more r d (Some v) ts h = omega (arith, h, count_by-cons (record { repetition = r; definition = d; value = Some v }) ts)

pub nulls_and_values : (ts : List Triple) → count_by (λ t. is_none t.value) ts + length (values_in ts) ≡ length ts
nulls_and_values [] = refl
nulls_and_values (t ∷ ts) = one_more t.repetition t.definition t.value ts (nulls_and_values ts)
