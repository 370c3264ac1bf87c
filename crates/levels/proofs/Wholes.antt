-- Paths in which no null has items.
use Rattle.std.proofs.Common.{◌≡◌, ◌⊎◌, ◌≢◌, subst, ℕ, zero, suc, ◌+◌, ◌-◌, ◌/◌, ◌%◌, ◌^◌, ◌<◌, ◌≤◌, ◌==◌, min, Bool, true, false, true≢false, cond, bit_and, inl, inr, Option, List, [], ◌∷◌, length, refl, arith, ap, sym, ◌∙◌}
use Rattle.std.specs.Prelude.{slice_index, slice_index_or}
use Rattle.std.specs.Int.{bit_at, w64, trailing_zeros}
use Rattle.std.specs.Int.Bits.{bit_xor, and_self}
use Rattle.std.proofs.lemmas.Bool.{cases_lt}
use Rattle.std.proofs.lemmas.Nat.{shr-shr, and_shr}
use Rattle.std.proofs.lemmas.Nat.Bits.{bit_at-trailing_zeros, bit_at_lowest, bit_at-suc, bit_at-zero, bit_at_and, bit_at_xor, bit_at_ones, bit_at_ones_above, bit_at_above, bit_at-lt, ones_shr}
use Rattle.columns_core.specs.Rising.{IsRising}
use Rattle.shredding.specs.Parts.{Part, leaf_part, list_part, struct_part, is_present, item_start, item_count}
use Rattle.levels.specs.Sizes.{total, total_or_one, slot_size, empty_size, HasNoItems}
use Rattle.levels.proofs.Sizes.{total-none, total-more, total-add, total_or_one-none, total_or_one-some}
use Rattle.levels.proofs.Rising.{rising}

-- ---- the pairs
module _ (offsets : List ℕ) (rises : IsRising offsets) where
  -- by how much the starts of two lists differ
  pub starts : (i j : ℕ) → i ≤ j → j < length offsets → item_start offsets i ≤ item_start offsets j
  starts i j o within =
      let first = rising offsets 0 i rises (omega arith) (omega (arith, o, within)) in
      let next = rising offsets i j rises o within in
      omega (arith, first, next)

  -- a list whose offsets are equal has no items
  pub no-items : (i a b : ℕ) → a ≡ slice_index offsets i → b ≡ slice_index offsets (i + 1) → a ≡ b → item_count offsets i ≡ 0
  no-items i a b ea eb e = omega (arith, ea, eb, e)

  pub has-items : (i a b : ℕ) → i + 1 < length offsets → a ≡ slice_index offsets i → b ≡ slice_index offsets (i + 1) → a ≢ b → empty_size offsets i ≡ 0
  has-items i a b within ea eb apart = by_order (cases_lt a b) where
    by_order : (a < b) ⊎ (b ≤ a) → empty_size offsets i ≡ 0
    by_order (inl h) =
        let first = rising offsets 0 i rises (omega arith) (omega (arith, within)) in
        omega (arith, h, first, ea, eb)
    by_order (inr h) =
        let next = rising offsets i (i + 1) rises (omega arith) within in
        absurd (apart (omega (arith, h, next, ea, eb)))

  module _ (is_optional : Bool) (mask : Option (List Bool)) (parts : List Part) where
    one-list : (b : Bool) (start n : ℕ) → (b ≡ false → n ≡ 0) → cond b (total_or_one (slot_size parts) start n) 1 ≡ 1 - n + total (slot_size parts) start n
    one-list true start zero h = omega (arith, total_or_one-none (slot_size parts) start zero refl, total-none (slot_size parts) start zero refl)
    one-list true start (suc n) h = omega (arith, total_or_one-some (slot_size parts) start (suc n) (omega arith))
    one-list false start n h = omega (arith, h refl, total-none (slot_size parts) start n (h refl))

    pub whole-lists : (from count : ℕ) → from + count < length offsets → ((i : ℕ) → from ≤ i → i < from + count → is_present is_optional mask i ≡ false → item_count offsets i ≡ 0) → total (slot_size (list_part is_optional mask offsets ∷ parts)) from count ≡ total (empty_size offsets) from count + total (slot_size parts) (item_start offsets from) (item_start offsets (from + count) - item_start offsets from)
    unfolding total slot_size
    whole-lists from zero within none =
        let here : from + 0 ≡ from = omega arith in
        let empty : item_start offsets from - item_start offsets from ≡ 0 = omega arith in
        rw (here, empty) refl
    whole-lists from (suc count) within none =
        let next : from + suc count ≡ from + 1 + count = omega arith in
        let inside : from + 1 + count < length offsets = omega (arith, within) in
        let rest = whole-lists (from + 1) count inside (λ i l h. none i (omega (arith, l)) (omega (arith, h))) in
        let one = one-list (is_present is_optional mask from) (item_start offsets from) (item_count offsets from) (none from (omega arith) (omega arith)) in
        let first = starts from (from + 1) (omega arith) (omega (arith, within)) in
        let last = starts (from + 1) (from + 1 + count) (omega arith) inside in
        let sum = total-add (slot_size parts) (item_start offsets from) (item_count offsets from) (item_start offsets (from + 1 + count) - item_start offsets (from + 1)) in
        let width : item_count offsets from + (item_start offsets (from + 1 + count) - item_start offsets (from + 1)) ≡ item_start offsets (from + 1 + count) - item_start offsets from = omega (arith, first, last) in
        let place : item_start offsets from + item_count offsets from ≡ item_start offsets (from + 1) = omega (arith, first) in
        let split = rw (width, place) at sum in
        rw next (omega (arith, rest, one, split))

-- the pairs of some lists, by those of their items, where sums stand at the largest number
pub lists-pairs : (is_optional : Bool) (mask : Option (List Bool)) (offsets : List ℕ) (parts : List Part) (from to first last empty pairs most all : ℕ) → IsRising offsets → from ≤ to → to < length offsets → ((i : ℕ) → from ≤ i → i < to → is_present is_optional mask i ≡ false → item_count offsets i ≡ 0) → first ≡ item_start offsets from → last ≡ item_start offsets to → empty ≡ total (empty_size offsets) from (to - from) → pairs ≡ min (total (slot_size parts) first (last - first)) most → all ≡ min (pairs + empty) most → all ≡ min (total (slot_size (list_part is_optional mask offsets ∷ parts)) from (to - from)) most
lists-pairs is_optional mask offsets parts from to first last empty pairs most all rises o within none ef el ee ep ea =
    let end : from + (to - from) ≡ to = omega (arith, o) in
    let whole = rw end at (whole-lists offsets rises is_optional mask parts from (to - from) (omega (arith, o, within)) (λ i l h. none i l (omega (arith, h, o)))) in
    let beneath = rw (ef, el) at ep in
    omega (arith, whole, beneath, ee, ea)

both_same : (b : Bool) (m n : ℕ) → (b ≡ false → m ≡ n) → cond b m n ≡ m
both_same true m n e = refl
both_same false m n e = sym (e refl)

one : (b : Bool) (m : ℕ) → m ≡ 1 → cond b m 1 ≡ 1
one true m e = e
one false m e = refl

-- a slot without items beneath has one pair
pub no-items-one : (parts : List Part) (i : ℕ) → HasNoItems parts i → slot_size parts i ≡ 1
unfolding slot_size
no-items-one [] i h = refl
no-items-one (leaf_part is_optional mask count ∷ parts) i h = refl
no-items-one (list_part is_optional mask offsets ∷ parts) i h = one (is_present is_optional mask i) _ (total_or_one-none (slot_size parts) (item_start offsets i) (item_count offsets i) h)
no-items-one (struct_part is_optional mask count ∷ parts) i h = one (is_present is_optional mask i) _ (no-items-one parts i h)

total-within : (size other : ℕ → ℕ) (place n : ℕ) → ((i : ℕ) → place ≤ i → i < place + n → size i ≡ other i) → total size place n ≡ total other place n
unfolding total
total-within size other place zero same = refl
total-within size other place (suc n) same = omega (arith, same place (omega arith) (omega arith), total-within size other (place + 1) n (λ i l h. same i (omega (arith, l)) (omega (arith, h))))

pub whole-structs : (is_optional : Bool) (mask : Option (List Bool)) (slots : ℕ) (parts : List Part) (from to : ℕ) → ((i : ℕ) → from ≤ i → i < to → is_present is_optional mask i ≡ false → HasNoItems parts i) → total (slot_size (struct_part is_optional mask slots ∷ parts)) from (to - from) ≡ total (slot_size parts) from (to - from)
unfolding slot_size
whole-structs is_optional mask slots parts from to none =
    total-within _ _ from (to - from) (λ i l h. both_same (is_present is_optional mask i) (slot_size parts i) 1 (λ absent. no-items-one parts i (none i l (omega (arith, l, h)) absent)))

pub whole-leaves : (is_optional : Bool) (mask : Option (List Bool)) (slots : ℕ) (parts : List Part) (from n : ℕ) → total (slot_size (leaf_part is_optional mask slots ∷ parts)) from n ≡ n
unfolding total slot_size
whole-leaves is_optional mask slots parts from zero = refl
whole-leaves is_optional mask slots parts from (suc n) = omega (arith, whole-leaves is_optional mask slots parts (from + 1) n)

-- no more lists are empty than there are
pub total-few : (offsets : List ℕ) (place n : ℕ) → total (empty_size offsets) place n ≤ n
unfolding total
total-few offsets place zero = omega arith
total-few offsets place (suc n) = omega (arith, total-few offsets (place + 1) n)

-- one more list
pub empty-more : (offsets : List ℕ) (i end empty more all : ℕ) → i < end → empty + total (empty_size offsets) i (end - i) ≡ all → more ≡ empty + empty_size offsets i → more + total (empty_size offsets) (i + 1) (end - (i + 1)) ≡ all
empty-more offsets i end empty more all below h e =
    let next = total-more (empty_size offsets) i (end - i) (end - (i + 1)) (omega (arith, below)) in
    omega (arith, next, h, e)

-- more lists
pub empty-on : (offsets : List ℕ) (place end to empty more all : ℕ) → place ≤ end → end ≤ to → empty + total (empty_size offsets) place (to - place) ≡ all → more ≡ total (empty_size offsets) place (end - place) → empty + more + total (empty_size offsets) end (to - end) ≡ all
empty-on offsets place end to empty more all o within h e =
    let a : to - place ≡ end - place + (to - end) = omega (arith, o, within) in
    let b : place + (end - place) ≡ end = omega (arith, o) in
    let split = rw b at (total-add (empty_size offsets) place (end - place) (to - end)) in
    let whole : total (empty_size offsets) place (to - place) ≡ total (empty_size offsets) place (end - place) + total (empty_size offsets) end (to - end) = rw a split in
    omega (arith, whole, h, e)

pub empty-end : (offsets : List ℕ) (i end empty all : ℕ) → end ≤ i → empty + total (empty_size offsets) i (end - i) ≡ all → empty ≡ all
empty-end offsets i end empty all past h =
    let none = total-none (empty_size offsets) i (end - i) (omega (arith, past)) in
    omega (arith, none, h)

-- ---- the set bits of a word
-- a word without its lowest set bit
lowest-cleared : (t n : ℕ) → ((j : ℕ) → j < t → bit_at n j ≡ 0) → bit_at n t ≡ 1 → bit_and n (n - 1) / 2 ^ (t + 1) ≡ n / 2 ^ (t + 1)
lowest-cleared zero n below one =
    let odd : n % 2 ≡ 1 = sym (bit_at_lowest n) ∙ one in
    let half : (n - 1) / 2 ≡ n / 2 = omega (arith, odd) in
    and_shr n (n - 1) 1 ∙ (ap (bit_and (n / 2)) half ∙ and_self (n / 2))
lowest-cleared (suc t) n below one =
    let even : n % 2 ≡ 0 = sym (bit_at_lowest n) ∙ below 0 (omega arith) in
    let high : bit_at (n / 2) t ≡ 1 = sym (bit_at-suc n t) ∙ one in
    let some : 0 < n / 2 = elim (cases_lt 0 (n / 2)) [
      | inl h ↦ h
      | inr h ↦ let z : n / 2 ≡ 0 = omega (arith, h) in absurd (omega (arith, high, ap (λ (k : ℕ). bit_at k t) z ∙ bit_at-zero t))
    ] in
    let less : (n - 1) / 2 ≡ n / 2 - 1 = omega (arith, even, some) in
    let half : bit_and n (n - 1) / 2 ≡ bit_and (n / 2) (n / 2 - 1) = and_shr n (n - 1) 1 ∙ ap (bit_and (n / 2)) less in
    let rest = lowest-cleared t (n / 2) (λ j h. sym (bit_at-suc n j) ∙ below (suc j) (omega (arith, h))) high in
    let place : 1 + (t + 1) ≡ suc t + 1 = omega arith in
    ap (λ (k : ℕ). bit_and n (n - 1) / 2 ^ k) (sym place) ∙ (sym (shr-shr (bit_and n (n - 1)) 1 (t + 1)) ∙ (ap (λ (k : ℕ). k / 2 ^ (t + 1)) half ∙ (rest ∙ (shr-shr n 1 (t + 1) ∙ ap (λ (k : ℕ). n / 2 ^ k) place))))

bit-shifted : (n i j : ℕ) → bit_at (n / 2 ^ i) j ≡ bit_at n (i + j)
bit-shifted n i j = ap (λ (k : ℕ). k % 2) (shr-shr n i j)

-- the bits of a word that are left to look at, and what holds where they were
pub record AreLeft (all left : ℕ) (holds : ℕ → Type 0) : Type 0 where
  pub inside : (i : ℕ) → bit_at left i ≡ 1 → bit_at all i ≡ 1
  pub done : (i : ℕ) → bit_at all i ≡ 1 → (bit_at left i ≡ 1) ⊎ holds i

pub all-left : (all : ℕ) (holds : ℕ → Type 0) → AreLeft all all holds
all-left all holds = record {
  inside = λ i h. h;
  done = λ i h. inl h;
}

pub lowest : (left : ℕ) → 0 < left → left < 2 ^ 64 → bit_at left (trailing_zeros w64 left) ≡ 1
lowest left some fits = (bit_at-trailing_zeros w64 left some fits).1

module _ (all left t : ℕ) (holds : ℕ → Type 0) (some : 0 < left) (fits : left < 2 ^ 64) (at : t ≡ trailing_zeros w64 left) (here : holds t) (p : AreLeft all left holds) where
  zeros : (j : ℕ) → j < t → bit_at left j ≡ 0
  zeros j h = (bit_at-trailing_zeros w64 left some fits).2 j (rw at at h)

  set : bit_at left t ≡ 1
  set = rw at (lowest left some fits)

  above : (i : ℕ) → t + 1 ≤ i → bit_at (bit_and left (left - 1)) i ≡ bit_at left i
  above i h =
      let place : t + 1 + (i - (t + 1)) ≡ i = omega (arith, h) in
      let same = lowest-cleared t left zeros set in
      ap (bit_at (bit_and left (left - 1))) (sym place) ∙ (sym (bit-shifted (bit_and left (left - 1)) (t + 1) (i - (t + 1))) ∙ (ap (λ (k : ℕ). bit_at k (i - (t + 1))) same ∙ (bit-shifted left (t + 1) (i - (t + 1)) ∙ ap (bit_at left) place)))

  next : (i : ℕ) → bit_at left i ≡ 1 → (bit_at (bit_and left (left - 1)) i ≡ 1) ⊎ holds i
  next i h = by_place (cases_lt i t) (cases_lt t i) where
    by_place : (i < t) ⊎ (t ≤ i) → (t < i) ⊎ (i ≤ t) → (bit_at (bit_and left (left - 1)) i ≡ 1) ⊎ holds i
    by_place (inl k) m = absurd (omega (arith, h, zeros i k))
    by_place (inr k) (inl m) = inl (above i (omega (arith, m)) ∙ h)
    by_place (inr k) (inr m) = let e : t ≡ i = omega (arith, k, m) in inr (subst holds e here)

  pub left-next : AreLeft all (bit_and left (left - 1)) holds
  left-next = record {
    inside = λ i h. p.inside i (omega (arith, h, bit_at_and left (left - 1) i, bit_at-lt left i));
    done = λ i h. elim (p.done i h) [
      | inl k ↦ next i k
      | inr k ↦ inr k
    ];
  }

pub none-left : (all left : ℕ) (holds : ℕ → Type 0) → left ≡ 0 → AreLeft all left holds → (i : ℕ) → bit_at all i ≡ 1 → holds i
none-left all left holds z p i h = elim (p.done i h) [
  | inl k ↦ absurd (omega (arith, rw z at k, bit_at-zero i))
  | inr k ↦ k
]

-- ---- the nulls of a mask as a word
module _ (mask : List Bool) (place count there : ℕ) (few : count ≤ 64) (low : there < 2 ^ count) (bits : (i : ℕ) → i < count → (bit_at there i == 1) ≡ slice_index_or mask (place + i) false) where
  full : (2 ^ 64 - 1) / 2 ^ (64 - count) ≡ 2 ^ count - 1
  full =
      let width : 64 - (64 - count) ≡ count = omega (arith, few) in
      ones_shr 64 (64 - count) (omega arith) ∙ ap (λ (k : ℕ). 2 ^ k - 1) width

  pub nulls-low : (i : ℕ) → bit_at (bit_xor ((2 ^ 64 - 1) / 2 ^ (64 - count)) there) i ≡ 1 → i < count
  nulls-low i h = elim (cases_lt i count) [
    | inl k ↦ k
    | inr k ↦
        let is = bit_at_xor (2 ^ count - 1) there i in
        absurd (omega (arith, rw full at h, is, bit_at_ones_above count i k, bit_at_above there count i low k))
  ]

  unset : (n : ℕ) → n < 2 → (n == 1) ≡ false → n ≡ 0
  unset zero b h = refl
  unset (suc zero) b h = absurd (true≢false h)
  unset (suc (suc n)) b h = absurd (omega (arith, b))

  pub nulls-set : (i : ℕ) → i < count → slice_index_or mask (place + i) false ≡ false → bit_at (bit_xor ((2 ^ 64 - 1) / 2 ^ (64 - count)) there) i ≡ 1
  nulls-set i h null =
      let is = bit_at_xor (2 ^ count - 1) there i in
      let zero_bit : bit_at there i ≡ 0 = unset (bit_at there i) (bit_at-lt there i) (bits i h ∙ null) in
      rw full (omega (arith, is, bit_at_ones count i h, zero_bit))

-- the nulls of a mask up to a place, and those of the word behind it
pub masked-more : (holds : ℕ → Type 0) (mask : List Bool) (from place count word : ℕ) → ((i : ℕ) → i < count → slice_index_or mask (place + i) false ≡ false → bit_at word i ≡ 1) → ((i : ℕ) → bit_at word i ≡ 1 → holds (place + i)) → ((i : ℕ) → from ≤ i → i < place → slice_index_or mask i false ≡ false → holds i) → (i : ℕ) → from ≤ i → i < place + count → slice_index_or mask i false ≡ false → holds i
masked-more holds mask from place count word nulls here before i l h null = elim (cases_lt i place) [
  | inl k ↦ before i l k null
  | inr k ↦
      let at : place + (i - place) ≡ i = omega (arith, k) in
      let unset : slice_index_or mask (place + (i - place)) false ≡ false = rw at null in
      subst holds at (here (i - place) (nulls (i - place) (omega (arith, h, k)) unset))
]
