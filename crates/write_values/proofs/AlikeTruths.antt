-- Truth values between two others.
use Rattle.std.proofs.Common.{◌≡◌, ℕ, ◌+◌, ◌-◌, ◌≤◌, ◌<◌, Bool, true, false, true≢false, ◌⊎◌, inl, inr, List, length, map, get_or, refl, sym, ap, ◌∙◌, arith}
use mathlib.Core.Bool.{beq}
use Rattle.std.specs.Prelude.{◌==◌}
use Rattle.std.specs.Int.{bit_at}
use Rattle.std.proofs.lemmas.Bool.{cases_lt}
use Rattle.shredding.specs.Slot.{truth}
use Rattle.pq_files.specs.Statistics.{IsImplied}
use Rattle.page_statistics.specs.Between.{AreAllBetween}
use Rattle.write_values.specs.Numbers.{at_place}
use Rattle.write_values.proofs.Ordered.{truths_up}

-- with those of a word
pub alike_more : (bits : List Bool) (value : Bool) (from at count word wanted : ℕ) → word ≡ wanted → ((i : ℕ) → i < count → (bit_at word i == 1) ≡ get_or bits (at + i) false) → ((i : ℕ) → i < count → (bit_at wanted i == 1) ≡ value) → ((i : ℕ) → from ≤ i → i < at → get_or bits i false ≡ value)
    → (i : ℕ) → from ≤ i → i < at + count → get_or bits i false ≡ value
alike_more bits value from at count word wanted e are want done i low high = by_order (cases_lt i at)
  where
    by_order : (i < at) ⊎ (at ≤ i) → get_or bits i false ≡ value
    by_order (inl h) = done i low h
    by_order (inr h) =
        let n : at + (i - at) ≡ i = omega (arith, h) in
        let k : i - at < count = omega (arith, h, high) in
        ap (λ (j : ℕ). get_or bits j false) (sym n) ∙ (sym (are (i - at) k) ∙ (ap (λ (w : ℕ). bit_at w (i - at) == 1) e ∙ want (i - at) k))

implied_by : (b c d : Bool) → b ≡ false → IsImplied b c
implied_by false c d e = tt
implied_by true c d e = absurd (true≢false e)

implied_to : (b c : Bool) → c ≡ true → IsImplied b c
implied_to false c e = tt
implied_to true c e = e

implied_same : (b c : Bool) → b ≡ c → IsImplied b c
implied_same false c e = tt
implied_same true c e = sym e

other : (a b : Bool) → (a ≡ b → ⊥) → b ≡ true → a ≡ false
other false b h e = refl
other true b h e = absurd (h (sym e))

pub alike_by : (a b : Bool) → beq a b ≡ true → a ≡ b
alike_by false false e = refl
alike_by true true e = refl
alike_by false true e = absurd (true≢false (sym e))
alike_by true false e = absurd (true≢false (sym e))

pub apart_by : (a b : Bool) → beq a b ≡ false → a ≡ b → ⊥
apart_by false false e h = true≢false e
apart_by true true e h = true≢false e
apart_by false true e h = true≢false (sym h)
apart_by true false e h = true≢false h

-- between false and true
pub truths_apart : (bits : List Bool) (from to least greatest : ℕ) (low high : Bool) → to ≤ length bits → least < length bits → greatest < length bits → low ≡ get_or bits least false → high ≡ get_or bits greatest false → (low ≡ high → ⊥) → high ≡ true → AreAllBetween (at_place (map truth bits)) from to least greatest
truths_apart bits from to least greatest low high within l g e f apart t i above below = (
  truths_up bits least i low (get_or bits i false) l (omega (arith, below, within)) e refl (implied_by low (get_or bits i false) high (other low high apart t)),
  truths_up bits i greatest (get_or bits i false) high (omega (arith, below, within)) g refl f (implied_to (get_or bits i false) high t),
)

-- all alike
pub truths_alike : (bits : List Bool) (from to least greatest : ℕ) (low high : Bool) → to ≤ length bits → least < length bits → greatest < length bits → low ≡ get_or bits least false → high ≡ get_or bits greatest false → low ≡ high → ((i : ℕ) → from ≤ i → i < to → get_or bits i false ≡ low) → AreAllBetween (at_place (map truth bits)) from to least greatest
truths_alike bits from to least greatest low high within l g e f same all i above below = (
  truths_up bits least i low (get_or bits i false) l (omega (arith, below, within)) e refl (implied_same low (get_or bits i false) (sym (all i above below))),
  truths_up bits i greatest (get_or bits i false) high (omega (arith, below, within)) g refl f (implied_same (get_or bits i false) high (all i above below ∙ same)),
)
