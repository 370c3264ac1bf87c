-- How many triples a row of the sample has in each column, and how many bytes their values.
use Rattle.std.proofs.Common.{◌≡◌, ◌==◌, ℕ, zero, suc, pos, ◌+◌, ◌*◌, ◌%◌, ◌≤◌, ◌<◌, true, false, cond, List, [], ◌∷◌, ◌++◌, length, map, flat_map, Option, Some, None, sum_by, subst, sym, arith}
use Rattle.std.specs.Fmt.{decimal}
use Rattle.std.specs.List.{AllByRecursion, range_with_len}
use Rattle.std.proofs.lemmas.Fmt.{length-decimal-le}
use Rattle.std.proofs.lemmas.List.{length-append}
use Rattle.std.proofs.lemmas.List.Sums.{sum_by-append, sum_by-cons}
use Rattle.std.proofs.lemmas.Nat.{mod_below}
use Rattle.shredding.specs.Shape.{Way, at_leaf, in_list, in_struct}
use Rattle.shredding.specs.Shred.{Triple, column, shred}
use Rattle.shredding.specs.Slot.{Slot, null, value, items, number, bytes, fields, slots_of, list_of, Value}
use Rattle.sample_rows.specs.Rows.{item_slot, sample_row}

-- ---- at most so many bytes for a value
abbrev pub weight : Value → ℕ
weight (bytes bs) = 4 + length bs
weight v = 8

abbrev pub option_weight : Option Value → ℕ
option_weight None = 0
option_weight (Some v) = weight v

abbrev pub triple_weight : Triple → ℕ
triple_weight t = option_weight t.value

-- at most so many triples, whose values have at most so many bytes
pub record AreFew (count size : ℕ) (ts : List Triple) : Type 0 where
  pub short : length ts ≤ count
  pub light : sum_by triple_weight ts ≤ size

-- a way along which no row of the sample has more
abbrev pub IsSlim : Way → Type 0
IsSlim w = (i : ℕ) → i < 1000000 → AreFew 3 24 (shred w (fields (sample_row i)) 0 0 0)

pub slim_ids : IsSlim (in_struct false 0 (at_leaf false))
unfolding shred
slim_ids i h = record { short = omega arith; light = omega arith }

short_decimal : (n : ℕ) → n < 1000000 → length (decimal n) ≤ 6
short_decimal n h = length-decimal-le 6 n (omega arith) (omega (arith, h)) (omega (arith, h))

pub slim_tags : IsSlim (in_struct false 1 (at_leaf true))
unfolding shred
slim_tags i h =
    elim (i % 3 == 0) as (λ b. AreFew 3 24 (shred (at_leaf true) (cond b null (value (bytes (decimal i)))) 0 0 0)) [
      | true ↦ record { short = omega arith; light = omega arith }
      | false ↦ record { short = omega arith; light = omega (arith, short_decimal i h) }
    ]

item_few : (m r d k : ℕ) → AreFew 1 8 (shred (at_leaf true) (item_slot m) r d k)
unfolding shred
item_few m r d k =
    elim (m % 7 == 0) as (λ b. AreFew 1 8 (shred (at_leaf true) (cond b null (value (number (pos m)))) r d k)) [
      | true ↦ record { short = omega arith; light = omega arith }
      | false ↦ record { short = omega arith; light = omega arith }
    ]

few_both : (a b c d : ℕ) (xs ys : List Triple) → AreFew a b xs → AreFew c d ys → AreFew (a + c) (b + d) (xs ++ ys)
few_both a b c d xs ys f g = record { short = omega (arith, length-append xs ys, f.short, g.short); light = omega (arith, sum_by-append triple_weight xs ys, f.light, g.light) }

items_few : (a n r d k : ℕ) → AreFew n (8 * n) (flat_map (λ t. shred (at_leaf true) t r d k) (list_of (slots_of (map item_slot (range_with_len a n)))))
items_few a zero r d k = record { short = omega arith; light = omega arith }
items_few a (suc n) r d k =
    let f = few_both _ _ _ _ _ _ (item_few a r d k) (items_few (a + 1) n r d k) in
    record { short = omega (arith, f.short); light = omega (arith, f.light) }

list_few : (a n : ℕ) → n ≤ 3 → AreFew 3 24 (shred (in_list true (at_leaf true)) (items (slots_of (map item_slot (range_with_len a n)))) 0 0 0)
unfolding shred
list_few a zero h = record { short = omega arith; light = omega arith }
list_few a (suc n) h =
    let f = few_both _ _ _ _ _ _ (item_few a 0 2 1) (items_few (a + 1) n 1 2 1) in
    record { short = omega (arith, f.short, h); light = omega (arith, f.light, h) }

pub slim_items : IsSlim (in_struct false 2 (in_list true (at_leaf true)))
unfolding shred
slim_items i h =
    elim (i % 5 == 0) as (λ b. AreFew 3 24 (shred (in_list true (at_leaf true)) (cond b null (items (slots_of (map item_slot (range_with_len i (i % 4)))))) 0 0 0)) [
      | true ↦ record { short = omega arith; light = omega arith }
      | false ↦ list_few i (i % 4) (omega (arith, mod_below i 4 (omega arith)))
    ]

-- ---- rows as slots
pub record IsSlot (s : Slot) : Type 0 where
  pub place : ℕ
  pub small : place < 1000000
  pub is : s ≡ fields (sample_row place)

pub rows_few : (w : Way) (ss : List Slot) → IsSlim w → AllByRecursion IsSlot ss → AreFew (3 * length ss) (24 * length ss) (column w ss)
rows_few w [] l h = record { short = omega arith; light = omega arith }
rows_few w (s ∷ ss) l h =
    let here : AreFew 3 24 (shred w s 0 0 0) = subst (λ x. AreFew 3 24 (shred w x 0 0 0)) (sym h.0.is) (l h.0.place h.0.small) in
    let f = few_both _ _ _ _ (shred w s 0 0 0) (column w ss) here (rows_few w ss l h.1) in
    record { short = omega (arith, f.short); light = omega (arith, f.light) }

-- ---- each value by itself
pub each_light : (n : ℕ) (ts : List Triple) → sum_by triple_weight ts ≤ n → AllByRecursion (λ t. triple_weight t ≤ n) ts
each_light n [] h = tt
each_light n (t ∷ ts) h = let s = sum_by-cons triple_weight t ts in (omega (arith, s, h), each_light n ts (omega (arith, s, h)))

both_each : (P : Triple → Type 0) (xs ys : List Triple) → AllByRecursion P xs → AllByRecursion P ys → AllByRecursion P (xs ++ ys)
both_each P [] ys a b = b
both_each P (x ∷ xs) ys a b = (a.0, both_each P xs ys a.1 b)

pub values_light : (w : Way) (ss : List Slot) → IsSlim w → AllByRecursion IsSlot ss → AllByRecursion (λ t. triple_weight t ≤ 24) (column w ss)
values_light w [] l h = tt
values_light w (s ∷ ss) l h =
    let here : AreFew 3 24 (shred w s 0 0 0) = subst (λ x. AreFew 3 24 (shred w x 0 0 0)) (sym h.0.is) (l h.0.place h.0.small) in
    both_each (λ t. triple_weight t ≤ 24) (shred w s 0 0 0) (column w ss) (each_light 24 (shred w s 0 0 0) here.light) (values_light w ss l h.1)
