use Rattle.std.proofs.Common.{◌≡◌, inl, inr, arith, get_or}
use Rattle.std.proofs.lemmas.Bool.{cases_lt}
use Rattle.std.proofs.lemmas.Nat.{le_or_l, le_or_r}
use Rattle.read_walk.proofs.folds.all_bits.Goals as goal

pub loop-level-preserved : goal.loop-level-preserved
loop-level-preserved c = λ k h. elim (cases_lt k c.loop-level.level-index) [
  | inl less ↦ omega (arith, c.loop-level.invariant k less, le_or_l c.loop-level.bits (get_or c.args.levels.now c.loop-level.level-index 0))
  | inr more ↦
      let e : k ≡ c.loop-level.level-index = omega (arith, h, more) in
      rw e (le_or_r c.loop-level.bits (get_or c.args.levels.now c.loop-level.level-index 0))
]
