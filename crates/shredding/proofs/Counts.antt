-- The triples that begin a row.
use Rattle.std.proofs.Common.{◌≡◌, ℕ, ◌+◌, ◌<◌, false, cond, List, [], ◌∷◌, ◌++◌, count_by, nat_eq, refl, ◌∙◌, arith, ne_eqb}
use Rattle.std.proofs.lemmas.List.Sums.{sum_by-append, sum_by-cons}
use Rattle.shredding.specs.Shred.{Triple, column, shred}
use Rattle.shredding.specs.Laws.{RowsAreCounted, starts_row}
use Rattle.shredding.proofs.Starts.{Above, BeginsAt, shred_begins}

pub count_by-cons : (t : Triple) (ts : List Triple) → count_by starts_row (t ∷ ts) ≡ cond (starts_row t) 1 0 + count_by starts_row ts
count_by-cons t ts = sum_by-cons (λ u. cond (starts_row u) 1 0) t ts

count_by-append : (xs ys : List Triple) → count_by starts_row (xs ++ ys) ≡ count_by starts_row xs + count_by starts_row ys
count_by-append xs ys = sum_by-append (λ u. cond (starts_row u) 1 0) xs ys

weight_later : (n : ℕ) → 0 < n → ◌≡◌ {A = ℕ} (cond (nat_eq n 0) 1 0) 0
weight_later n l = let e : nat_eq n 0 ≡ false = ne_eqb n 0 (omega arith) in rw e refl

weight_first : (n : ℕ) → n ≡ 0 → ◌≡◌ {A = ℕ} (cond (nat_eq n 0) 1 0) 1
weight_first n e = rw e refl

none_inside : (ts : List Triple) → Above 0 ts → count_by starts_row ts ≡ 0
none_inside [] h = refl
none_inside (t ∷ ts) h = count_by-cons t ts ∙ omega (arith, weight_later t.repetition h.0, none_inside ts h.1)

one_slot : (d : ℕ) (ts : List Triple) → BeginsAt 0 d 0 ts → count_by starts_row ts ≡ 1
one_slot d [] h = absurd h
one_slot d (t ∷ ts) h = count_by-cons t ts ∙ omega (arith, weight_first t.repetition h.0, none_inside ts h.2)

pub counted : RowsAreCounted
counted w [] = refl
counted w (s ∷ rows) = count_by-append (shred w s 0 0 0) (column w rows) ∙ omega (arith, one_slot 0 (shred w s 0 0 0) (shred_begins w s 0 0 0), counted w rows)
