-- Each number has a width, and so two readings of a page's sections are one.
use Rattle.std.proofs.Common.{◌≡◌, inl, inr, ℕ, zero, suc, ◌^◌, ◌<◌, ◌≤◌, List, arith, sym, ◌∙◌}
use Rattle.std.proofs.Math.Nat.{pow-suc}
use Rattle.std.proofs.Math.Pow.{pow_mono}
use Rattle.std.proofs.lemmas.Bool.{cases_lt}
use Rattle.pq_numbers.specs.Bits.{IsWidth}
use Rattle.pq_files.specs.Page.{Sections}
use Rattle.read_walk.specs.Pairs.{Item}
use Rattle.read_column.specs.Opened.{ArePairsOf}

wider : (max w v : ℕ) → 2 ^ w ≤ max → max < 2 ^ v → suc w ≤ v
wider max w v h k = elim (cases_lt w v) [
  | inl less ↦ omega (arith, less)
  | inr more ↦ absurd (let m : 2 ^ v ≤ 2 ^ w = pow_mono more in omega (arith, h, k, m))
]

pub has-width : (max : ℕ) → (w : ℕ) × IsWidth max w
has-width zero = (0, record { holds = omega arith; least = λ v h. omega arith })
has-width (suc max) =
    let before = has-width max in
    elim (cases_lt (suc max) (2 ^ before.0)) [
      | inl less ↦ (before.0, record { holds = less; least = λ v h. before.1.least v (omega (arith, h)) })
      | inr more ↦ (suc before.0, record { holds = omega (arith, before.1.holds, more, pow-suc 2 before.0); least = λ v h. wider (suc max) before.0 v more h })
    ]

pub pairs-same : (s : Sections) (r d n : ℕ) (xs ys : List Item) → ArePairsOf s r d n xs → ArePairsOf s r d n ys → xs ≡ ys
pairs-same s r d n xs ys a b =
    let v = has-width r in
    let w = has-width d in
    a v.0 w.0 v.1 w.1 ∙ sym (b v.0 w.0 v.1 w.1)
