-- Lists side by side that have items.
use Rattle.std.proofs.Common.{◌≡◌, ◌≢◌, ◌⊎◌, ℕ, ◌+◌, ◌<◌, ◌≤◌, Bool, Option, List, length, inl, inr, true, arith, sym, ◌∙◌, subst}
use Rattle.std.proofs.lemmas.Bool.{cases_lt}
use Rattle.std.specs.Prelude.{slice_index}
use Rattle.columns_core.specs.Rising.{IsRising}
use Rattle.shredding.specs.Parts.{is_present, item_start}
use Rattle.levels.specs.Stretch.{AreAlike, AreFull, HaveItems}
use Rattle.levels.proofs.Rising.{rising}

pub items_more : (offsets : List ℕ) (place i a b : ℕ) → IsRising offsets → a ≡ slice_index offsets i → b ≡ slice_index offsets (i + 1) → a ≢ b → i + 1 < length offsets → HaveItems offsets place i → HaveItems offsets place (i + 1)
items_more offsets place i a b h ea eb apart within before = λ j l below. by_order j l below (cases_lt j i) where
  by_order : (j : ℕ) → place ≤ j → j < i + 1 → (j < i) ⊎ (i ≤ j) → item_start offsets j < item_start offsets (j + 1)
  by_order j l below (inl k) = before j l k
  by_order j l below (inr k) =
      let e : i ≡ j = omega (arith, below, k) in
      let first = rising offsets 0 i h (omega arith) (omega (arith, within)) in
      let next = rising offsets i (i + 1) h (omega arith) within in
      let more : item_start offsets i < item_start offsets (i + 1) = omega (arith, first, next, ea, eb, apart) in
      subst (λ (k : ℕ). item_start offsets k < item_start offsets (k + 1)) e more

pub full_lists : (is_optional : Bool) (mask : Option (List Bool)) (offsets : List ℕ) (place end last : ℕ) (there : Bool) → AreFull is_optional mask offsets place (place + 1) → AreAlike (λ i. is_present is_optional mask i) there place last → end ≤ last → HaveItems offsets (place + 1) end → AreFull is_optional mask offsets place end
full_lists is_optional mask offsets place end last there first alike within items = λ i l h. by_order i l h (cases_lt place i) where
  by_order : (i : ℕ) → place ≤ i → i < end → (place < i) ⊎ (i ≤ place) → (is_present is_optional mask i ≡ true) × (item_start offsets i < item_start offsets (i + 1))
  by_order i l h (inl k) =
      let same : there ≡ true = sym (alike place (omega arith) (omega (arith, l, h, within))) ∙ (first place (omega arith) (omega arith)).0 in
      (alike i l (omega (arith, h, within)) ∙ same, items i (omega (arith, k)) h)
  by_order i l h (inr k) =
      first i l (omega (arith, k))
