use Rattle.std.proofs.Common.{◌≡◌, ◌==◌, ◌<◌, ◌≤◌, ℕ, true}
use Rattle.std.specs.Int.{bit_at}
use Rattle.read_laws.specs.State.{kept_way}
use Rattle.read_walk.specs.Order.{MayComeAt}
use Rattle.read_walk.proofs.order.all_may_come.Given as goal

abbrev pub invariant-loop-known : goal.invariant-loop-known
invariant-loop-known l = record {
  may : (k : ℕ) → k < 64 → (bit_at l.known k == 1) ≡ true → MayComeAt (kept_way l.nested) l.before l.reps l.defs k;
  few : l.list ≤ 255;
}

abbrev pub decreases-loop-known : goal.decreases-loop-known
decreases-loop-known l = l.list
