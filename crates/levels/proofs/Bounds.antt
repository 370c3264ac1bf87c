-- There are no more level pairs than slots and what the lists span.
use Rattle.std.proofs.Common.{◌≡◌, ℕ, zero, suc, ◌+◌, ◌-◌, ◌^◌, ◌<◌, ◌≤◌, min, Bool, true, false, cond, Option, List, [], ◌∷◌, length, refl, arith}
use Rattle.shredding.specs.Slot.{Value}
use Rattle.columns_core.specs.Rising.{IsRising}
use Rattle.shredding.specs.Parts.{Part, leaf_part, list_part, struct_part, is_present, item_start, item_count, slot_count, FitTogether, IsPath}
use Rattle.levels.specs.declared.nested.Nested.{Nested}
use Rattle.levels.specs.Nested.{parts_of, nested_column}
use Rattle.levels.specs.Ranges.{span_sum}
use Rattle.levels.specs.Sizes.{total, total_or_one, slot_size, AreRising}
use Rattle.levels.proofs.Columns.{length-column}
use Rattle.levels.proofs.Flat.{total-same}
use Rattle.levels.proofs.Rising.{rising}
use Rattle.levels.proofs.Sizes.{length-path_pairs, total-add, total_or_one-some, total_or_one-none}

-- ---- one list

or_one-most : (size : ℕ → ℕ) (place n : ℕ) → total_or_one size place n ≤ 1 + total size place n
or_one-most size place zero = omega (arith, total_or_one-none size place zero refl)
or_one-most size place (suc n) = omega (arith, total_or_one-some size place (suc n) (omega arith))

cond-most : (b : Bool) (m n : ℕ) → m ≤ 1 + n → cond b m 1 ≤ 1 + n
cond-most true m n h = h
cond-most false m n h = omega arith

-- the size of a list over items of these sizes
abbrev over : (ℕ → ℕ) → Bool → Option (List Bool) → List ℕ → ℕ → ℕ
over size is_optional mask offsets i = cond (is_present is_optional mask i) (total_or_one size (item_start offsets i) (item_count offsets i)) 1

starts-rise : (offsets : List ℕ) (i j : ℕ) → IsRising offsets → i ≤ j → j < length offsets → item_start offsets i ≤ item_start offsets j
starts-rise offsets i j h l m = omega (arith, rising offsets i j h l m)

meet : (size : ℕ → ℕ) (a b c : ℕ) → a ≤ b → b ≤ c → total size a (c - a) ≡ total size a (b - a) + total size b (c - b)
meet size a b c h k =
    let x : c - a ≡ b - a + (c - b) = omega (arith, h, k) in
    let y : a + (b - a) ≡ b = omega (arith, h) in
    rw x (rw y at (total-add size a (b - a) (c - b)))

lists-most : (size : ℕ → ℕ) (is_optional : Bool) (mask : Option (List Bool)) (offsets : List ℕ) → IsRising offsets → (place n : ℕ) → place + n < length offsets → total (over size is_optional mask offsets) place n ≤ n + total size (item_start offsets place) (item_start offsets (place + n) - item_start offsets place)
unfolding total
lists-most size is_optional mask offsets h place zero w = omega arith
lists-most size is_optional mask offsets h place (suc n) w =
    let e : place + suc n ≡ place + 1 + n = omega arith in
    let a = item_start offsets place in
    let b = item_start offsets (place + 1) in
    let c = item_start offsets (place + 1 + n) in
    let others : total (over size is_optional mask offsets) (place + 1) n ≤ n + total size b (c - b) = lists-most size is_optional mask offsets h (place + 1) n (omega (arith, w)) in
    let here : over size is_optional mask offsets place ≤ 1 + total size a (b - a) = cond-most (is_present is_optional mask place) _ (total size a (b - a)) (or_one-most size a (b - a)) in
    let sum = meet size a b c (starts-rise offsets place (place + 1) h (omega arith) (omega (arith, w))) (starts-rise offsets (place + 1) (place + 1 + n) h (omega arith) (omega (arith, w))) in
    rw e (omega (arith, others, here, sum))

-- ---- a path

total-most : (size other : ℕ → ℕ) → ((i : ℕ) → size i ≤ other i) → (place n : ℕ) → total size place n ≤ total other place n
unfolding total
total-most size other le place zero = omega arith
total-most size other le place (suc n) = omega (arith, le place, total-most size other le (place + 1) n)

total-one_each : (size : ℕ → ℕ) → ((i : ℕ) → size i ≤ 1) → (place n : ℕ) → total size place n ≤ n
unfolding total
total-one_each size le place zero = omega arith
total-one_each size le place (suc n) = omega (arith, le place, total-one_each size le (place + 1) n)

total_or_one-least : (size : ℕ → ℕ) → ((i : ℕ) → 1 ≤ size i) → (place n : ℕ) → 1 ≤ total_or_one size place n
unfolding total_or_one total
total_or_one-least size le place zero = omega arith
total_or_one-least size le place (suc n) = omega (arith, le place)

cond-least : (b : Bool) (m : ℕ) → 1 ≤ m → 1 ≤ cond b m 1
cond-least true m h = h
cond-least false m h = omega arith

cond-or_one : (b : Bool) (m : ℕ) → 1 ≤ m → cond b m 1 ≤ m
cond-or_one true m h = omega arith
cond-or_one false m h = h

slot_size-least : (parts : List Part) (i : ℕ) → 1 ≤ slot_size parts i
unfolding slot_size
slot_size-least [] i = omega arith
slot_size-least (leaf_part is_optional mask count ∷ parts) i = omega arith
slot_size-least (list_part is_optional mask offsets ∷ parts) i = cond-least (is_present is_optional mask i) _ (total_or_one-least (slot_size parts) (slot_size-least parts) (item_start offsets i) (item_count offsets i))
slot_size-least (struct_part is_optional mask count ∷ parts) i = cond-least (is_present is_optional mask i) _ (slot_size-least parts i)

slots-most : (parts : List Part) → FitTogether parts → AreRising parts → (place n : ℕ) → place + n ≤ slot_count parts → total (slot_size parts) place n ≤ n + span_sum parts
unfolding slot_size
slots-most [] h k place n w = omega (arith, total-one_each (slot_size []) (λ i. omega arith) place n)
slots-most (leaf_part is_optional mask count ∷ parts) h k place n w = omega (arith, total-one_each (slot_size (leaf_part is_optional mask count ∷ parts)) (λ i. omega arith) place n)
slots-most (struct_part is_optional mask count ∷ parts) h k place n w =
    let beneath = slots-most parts h.1 k.1 place n (omega (arith, w, h.0.1)) in
    let fewer = total-most (slot_size (struct_part is_optional mask count ∷ parts)) (slot_size parts) (λ i. cond-or_one (is_present is_optional mask i) (slot_size parts i) (slot_size-least parts i)) place n in
    omega (arith, beneath, fewer)
slots-most (list_part is_optional mask [] ∷ parts) h k place n w = absurd k.0
slots-most (list_part is_optional mask (o ∷ os) ∷ parts) h k place n w =
    let offsets = o ∷ os in
    let within : place + n < length offsets = omega (arith, w) in
    let same = total-same (slot_size (list_part is_optional mask offsets ∷ parts)) (over (slot_size parts) is_optional mask offsets) (λ i. refl) place n in
    let items = lists-most (slot_size parts) is_optional mask offsets k.0 place n within in
    let rise = starts-rise offsets place (place + n) k.0 (omega arith) within in
    let end = starts-rise offsets (place + n) (length offsets - 1) k.0 (omega (arith, within)) (omega arith) in
    let beneath = slots-most parts h.1 k.1 (item_start offsets place) (item_start offsets (place + n) - item_start offsets place) (omega (arith, rise, end, h.0.1)) in
    omega (arith, same, items, beneath, rise, end)

pub column-most : (values : ℕ → Value) (nested : List Nested) (slots span most : ℕ) → IsPath (parts_of nested) → AreRising (parts_of nested) → slots ≡ slot_count (parts_of nested) → span ≡ min (span_sum (parts_of nested)) (2 ^ 64 - 1) → most ≡ min (slots + span) (2 ^ 64 - 1) → min (length (nested_column values nested)) (2 ^ 64 - 1) ≤ most
column-most values nested slots span most well rise es esp em =
    let parts = parts_of nested in
    let n = length-column values nested in
    let size = length-path_pairs parts in
    let fewer = slots-most parts well.fits rise 0 (slot_count parts) (omega arith) in
    omega (arith, es, esp, em, n, size, fewer)
