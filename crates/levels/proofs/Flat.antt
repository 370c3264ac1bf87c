-- Paths without lists, and lists above them.
use Rattle.std.proofs.Common.{◌≡◌, ℕ, zero, suc, ◌+◌, ◌-◌, ◌<◌, ◌≤◌, ◌/◌, ◌^◌, min, max, true, false, Bool, cond, Option, List, [], ◌∷◌, refl, arith, ap, ◌∙◌}
use Rattle.std.specs.Int.{bit_at}
use Rattle.std.proofs.lemmas.Nat.Bits.{ones_shr, bit_at_ones}
use Rattle.shredding.specs.Shred.{max_repetition}
use Rattle.shredding.specs.Parts.{Part, leaf_part, list_part, struct_part, is_present, item_start, item_count, path_way}
use Rattle.levels.specs.declared.nested.Nested.{Nested}
use Rattle.levels.specs.declared.nested.Nested.TheVariants.{Primitive, Struct}
use Rattle.levels.specs.Nested.{parts_of}
use Rattle.levels.specs.Sizes.{total, total_or_one, slot_size, list_size}
use Rattle.levels.proofs.Sizes.{total_or_one-none, total_or_one-some, total-more, total-none}

both_same : (b : Bool) (m n : ℕ) → m ≡ n → cond b m n ≡ n
both_same true m n e = e
both_same false m n e = refl

-- a slot of a path without lists has one pair
pub slot_size-flat : (parts : List Part) → max_repetition (path_way parts) ≡ 0 → (i : ℕ) → slot_size parts i ≡ 1
unfolding slot_size
slot_size-flat [] e i = refl
slot_size-flat (leaf_part is_optional mask count ∷ parts) e i = refl
slot_size-flat (list_part is_optional mask offsets ∷ parts) e i = absurd (omega (arith, e))
slot_size-flat (struct_part is_optional mask count ∷ parts) e i = both_same (is_present is_optional mask i) (slot_size parts i) 1 (slot_size-flat parts e i)

total-ones : (size : ℕ → ℕ) → ((i : ℕ) → size i ≡ 1) → (place n : ℕ) → total size place n ≡ n
unfolding total
total-ones size one place zero = refl
total-ones size one place (suc n) = omega (arith, one place, total-ones size one (place + 1) n)

pub total-flat : (parts : List Part) (place n : ℕ) → max_repetition (path_way parts) ≡ 0 → total (slot_size parts) place n ≡ n
total-flat parts place n e = total-ones (slot_size parts) (slot_size-flat parts e) place n

pub total-same : (size other : ℕ → ℕ) → ((i : ℕ) → size i ≡ other i) → (place n : ℕ) → total size place n ≡ total other place n
unfolding total
total-same size other same place zero = refl
total-same size other same place (suc n) = omega (arith, same place, total-same size other same (place + 1) n)

some_or_one : (size : ℕ → ℕ) → ((i : ℕ) → size i ≡ 1) → (place n : ℕ) → total_or_one size place n ≡ max n 1
some_or_one size one place zero = total_or_one-none size place zero refl
some_or_one size one place (suc n) = total_or_one-some size place (suc n) (omega arith) ∙ total-ones size one place (suc n) ∙ omega arith

pub slot_size-list : (is_optional : Bool) (mask : Option (List Bool)) (offsets : List ℕ) (parts : List Part) → max_repetition (path_way parts) ≡ 0 → (i : ℕ) → slot_size (list_part is_optional mask offsets ∷ parts) i ≡ list_size is_optional mask offsets i
unfolding slot_size
slot_size-list is_optional mask offsets parts e i =
    ap (λ (k : ℕ). cond (is_present is_optional mask i) k 1) (some_or_one (slot_size parts) (slot_size-flat parts e) (item_start offsets i) (item_count offsets i))

pub total-lists : (is_optional : Bool) (mask : Option (List Bool)) (offsets : List ℕ) (parts : List Part) (place n : ℕ) → max_repetition (path_way parts) ≡ 0 → total (slot_size (list_part is_optional mask offsets ∷ parts)) place n ≡ total (list_size is_optional mask offsets) place n
total-lists is_optional mask offsets parts place n e = total-same _ _ (slot_size-list is_optional mask offsets parts e) place n

-- one more place of some, where sums stand at the largest number
pub next_size : (size : ℕ → ℕ) (place i count sum pairs new all most : ℕ) → i < count → min (sum + total size (place + i) (count - i)) most ≡ all → pairs ≡ size (place + i) → new ≡ min (sum + pairs) most → min (new + total size (place + (i + 1)) (count - (i + 1))) most ≡ all
next_size size place i count sum pairs new all most below h p n =
    let more = total-more size (place + i) (count - i) (count - (i + 1)) (omega (arith, below)) in
    let next : place + i + 1 ≡ place + (i + 1) = omega arith in
    let whole = rw next at more in
    omega (arith, whole, h, p, n)

-- nothing is left
pub last_size : (size : ℕ → ℕ) (place i count sum all most : ℕ) → count ≤ i → sum ≤ most → min (sum + total size (place + i) (count - i)) most ≡ all → sum ≡ all
last_size size place i count sum all most past fits h =
    let none = total-none size (place + i) (count - i) (omega (arith, past)) in
    omega (arith, none, fits, h)

-- where all places are still to come
pub first_size : (size : ℕ → ℕ) (place count sum most : ℕ) → sum ≡ 0 → min (sum + total size (place + 0) (count - 0)) most ≡ min (total size place count) most
first_size size place count sum most z =
    let here : place + 0 ≡ place = omega arith in
    let whole : count - 0 ≡ count = omega arith in
    let none : 0 + total size place count ≡ total size place count = omega arith in
    rw (here, whole, z, none) refl

-- a word whose low bits are set
pub full_bit : (count i : ℕ) → count ≤ 64 → i < count → bit_at ((2 ^ 64 - 1) / 2 ^ (64 - count)) i ≡ 1
full_bit count i few below =
    let width : 64 - (64 - count) ≡ count = omega (arith, few) in
    ap (λ n. bit_at n i) (ones_shr 64 (64 - count) (omega arith)) ∙ rw width (bit_at_ones count i below)

-- the pairs of a path in which at most the first part is a list
module _ (part : Nested) (rest : List Nested) (from to : ℕ) (flat : max_repetition (path_way (parts_of rest)) ≡ 0) where
  pub leaf-pairs : (mask : Option (List Bool)) (is_optional : Bool) (count : ℕ) → part ≡ Primitive mask is_optional count → total (slot_size (parts_of (part ∷ rest))) from (to - from) ≡ to - from
  leaf-pairs mask is_optional count e = total-flat (parts_of (part ∷ rest)) from (to - from) (rw e refl)

  pub struct-pairs : (mask : Option (List Bool)) (is_optional : Bool) (count : ℕ) → part ≡ Struct mask is_optional count → total (slot_size (parts_of (part ∷ rest))) from (to - from) ≡ to - from
  struct-pairs mask is_optional count e = total-flat (parts_of (part ∷ rest)) from (to - from) (rw e flat)
