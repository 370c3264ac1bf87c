-- The items of the sample are natural numbers, and so is their sum.
use Rattle.std.proofs.Common.{◌≡◌, ◌+◌, ◌*◌, ◌%◌, ◌^◌, ◌<◌, ◌≤◌, ◌==◌, ℕ, zero, suc, pos, Bool, true, false, List, [], ◌∷◌, ◌++◌, map, flat_map, fold, refl, sym, ap, zero-add, ◌∙◌, arith}
use Rattle.std.specs.Prelude.{◌+ℤ◌, if◌then◌else◌}
use Rattle.std.specs.List.{range_with_len}
use Rattle.std.proofs.lemmas.List.{map-append}
use Rattle.shredding.proofs.Along.{list_of-slots_of}
use Rattle.shredding.specs.Slot.{null, value, number, items, slots_of}
use Rattle.sample_rows.specs.Present.{number_in, numbers_in, present, sample_items, total}
use Rattle.sample_rows.specs.Rows.{item_slot, items_slot}

-- ---- which numbers they are

abbrev item_numbers : ℕ → List ℕ
item_numbers n = if n % 7 == 0 then [] else n ∷ []

abbrev row_numbers : ℕ → List ℕ
row_numbers i = if i % 5 == 0 then [] else flat_map item_numbers (range_with_len i (i % 4))

of_item : (n : ℕ) → number_in (item_slot n) ≡ map pos (item_numbers n)
of_item n = by (n % 7 == 0)
  where
    by : (b : Bool) → number_in (if b then null else value (number (pos n))) ≡ map pos (if b then [] else n ∷ [])
    by true = refl
    by false = refl

of_items : (ns : List ℕ) → flat_map number_in (map item_slot ns) ≡ map pos (flat_map item_numbers ns)
of_items [] = refl
of_items (n ∷ ns) = (λ i. of_item n i ++ of_items ns i) ∙ sym (map-append pos (item_numbers n) (flat_map item_numbers ns))

of_row : (i : ℕ) → numbers_in (items_slot i) ≡ map pos (row_numbers i)
of_row i = by (i % 5 == 0)
  where
    by : (b : Bool) → numbers_in (if b then null else items (slots_of (map item_slot (range_with_len i (i % 4))))) ≡ map pos (if b then [] else flat_map item_numbers (range_with_len i (i % 4)))
    by true = refl
    by false = ap (flat_map number_in) (list_of-slots_of (map item_slot (range_with_len i (i % 4)))) ∙ of_items (range_with_len i (i % 4))

of_rows : (is : List ℕ) → present (map items_slot is) ≡ map pos (flat_map row_numbers is)
of_rows [] = refl
of_rows (i ∷ is) = (λ k. of_row i k ++ of_rows is k) ∙ sym (map-append pos (row_numbers i) (flat_map row_numbers is))

-- ---- their sum

added : List ℕ → ℕ
added [] = 0
added (n ∷ ns) = n + added ns

added-append : (ms ns : List ℕ) → added (ms ++ ns) ≡ added ms + added ns
unfolding added
added-append [] ns = omega arith
added-append (m ∷ ms) ns = omega (arith, added-append ms ns)

total_from : (a : ℕ) (ns : List ℕ) → fold ◌+ℤ◌ (pos a) (map pos ns) ≡ pos (a + added ns)
unfolding added
total_from a [] = ap pos (omega arith)
total_from a (n ∷ ns) = total_from (a + n) ns ∙ ap pos (omega arith)

-- ---- how great it is at most

item_bound : (n : ℕ) → added (item_numbers n) ≤ n
unfolding added
item_bound n = by (n % 7 == 0)
  where
    by : (b : Bool) → added (if b then [] else n ∷ []) ≤ n
    by true = omega arith
    by false = omega arith

items_bound : (k i : ℕ) → i + k ≤ 1000003 → added (flat_map item_numbers (range_with_len i k)) ≤ 1000003 * k
unfolding added
items_bound zero i h = omega arith
items_bound (suc k) i h = omega (arith, h, added-append (item_numbers i) (flat_map item_numbers (range_with_len (i + 1) k)), item_bound i, items_bound k (i + 1) (omega (arith, h)))

row_bound : (i : ℕ) → i < 1000000 → added (row_numbers i) ≤ 3000009
unfolding added
row_bound i h = by (i % 5 == 0)
  where
    by : (b : Bool) → added (if b then [] else flat_map item_numbers (range_with_len i (i % 4))) ≤ 3000009
    by true = omega arith
    by false = omega (arith, items_bound (i % 4) i (omega (arith, h)))

rows_bound : (n first : ℕ) → first + n ≤ 1000000 → added (flat_map row_numbers (range_with_len first n)) ≤ 3000009 * n
unfolding added
rows_bound zero first h = omega arith
rows_bound (suc n) first h = omega (arith, h, added-append (row_numbers first) (flat_map row_numbers (range_with_len (first + 1) n)), row_bound first (omega (arith, h)), rows_bound n (first + 1) (omega (arith, h)))

-- a number of 64 bits without a sign
pub natural_sum : (count : ℕ) → count ≤ 1000000 → (s : ℕ) × ((sample_items count).sum ≡ pos s) × (s < 2 ^ 64)
natural_sum count h = (
  added (flat_map row_numbers (range_with_len 0 count)),
  ap total (of_rows (range_with_len 0 count)) ∙ total_from 0 (flat_map row_numbers (range_with_len 0 count)) ∙ ap pos (zero-add (added (flat_map row_numbers (range_with_len 0 count)))),
  omega (arith, h, rows_bound count 0 (omega (arith, h))),
)
