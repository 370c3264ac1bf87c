use Rattle.std.proofs.Common.{◌≡◌, ℕ, ◌≤◌, inl, inr, arith, get_or, nat_lt}
use Rattle.std.specs.Int.{from_bool}
use Rattle.std.proofs.lemmas.Bool.{cases_lt, lt-ltb}
use Rattle.std.proofs.lemmas.Nat.{le_or_l, le_or_r}
use Rattle.read_walk.proofs.folds.any_below.Goals as goal

not-below : (level floor : ℕ) → from_bool (nat_lt level floor) ≡ 0 → floor ≤ level
not-below level floor h = elim (cases_lt level floor) [
  | inl less ↦ absurd (omega (arith, rw (lt-ltb level floor less) at h))
  | inr e ↦ e
]

pub loop-level-preserved : goal.loop-level-preserved
loop-level-preserved c = λ e k h.
    let here : ℕ = c.from-any.result in
    let before : c.loop-level.any ≡ 0 = omega (arith, e, le_or_l c.loop-level.any here) in
    let none : here ≡ 0 = omega (arith, e, le_or_r c.loop-level.any here) in
    elim (cases_lt k c.loop-level.level-index) [
      | inl less ↦ c.loop-level.invariant before k less
      | inr more ↦
          let last : k ≡ c.loop-level.level-index = omega (arith, h, more) in
          rw last (not-below (get_or c.args.levels.now c.loop-level.level-index 0) c.args.floor (rw c.from-any.ensures at none))
    ]
