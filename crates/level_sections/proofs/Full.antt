-- Lists that are there and have items, list by list.
use Rattle.std.proofs.Common.{◌≡◌, ◌≢◌, ◌⊎◌, ℕ, ◌+◌, ◌<◌, ◌≤◌, Bool, true, Option, List, length, inl, inr, arith, subst}
use Rattle.std.proofs.lemmas.Bool.{cases_lt}
use Rattle.columns_core.specs.Rising.{IsRising}
use Rattle.shredding.specs.Parts.{is_present, item_start}
use Rattle.levels.specs.Stretch.{AreAlike, AreFull}
use Rattle.levels.proofs.Rising.{rising}

-- one list more
pub full-more : (is_optional : Bool) (mask : Option (List Bool)) (offsets : List ℕ) (place i a b : ℕ) → is_present is_optional mask i ≡ true → a ≡ item_start offsets i → b ≡ item_start offsets (i + 1) → a ≢ b → IsRising offsets → i + 1 < length offsets → AreFull is_optional mask offsets place i → AreFull is_optional mask offsets place (i + 1)
full-more is_optional mask offsets place i a b there e f apart rise within before = λ j l below. by_order j l below (cases_lt j i) where
  by_order : (j : ℕ) → place ≤ j → j < i + 1 → (j < i) ⊎ (i ≤ j) → (is_present is_optional mask j ≡ true) × (item_start offsets j < item_start offsets (j + 1))
  by_order j l below (inl k) = before j l k
  by_order j l below (inr k) =
      let same : i ≡ j = omega (arith, below, k) in
      let first = rising offsets 0 i rise (omega arith) (omega (arith, within)) in
      let next = rising offsets i (i + 1) rise (omega arith) within in
      let more : item_start offsets i < item_start offsets (i + 1) = omega (arith, first, next, e, f, apart) in
      subst (λ (n : ℕ). (is_present is_optional mask n ≡ true) × (item_start offsets n < item_start offsets (n + 1))) same (there, more)

pub full-none : (is_optional : Bool) (mask : Option (List Bool)) (offsets : List ℕ) (i : ℕ) → AreFull is_optional mask offsets i i
full-none is_optional mask offsets i = λ j low high. absurd (omega (arith, low, high))

pub alike-one : (at : ℕ → Bool) (there : Bool) (i : ℕ) → at i ≡ there → AreAlike at there i (i + 1)
alike-one at there i e = λ j low high.
    let same : i ≡ j = omega (arith, low, high) in
    subst (λ (n : ℕ). at n ≡ there) same e
