use Rattle.std.proofs.Common.{◌≡◌, ◌≤◌, ◌<◌, ◌-◌, ℕ, false, get_or}
use Rattle.write_values.proofs.order.are_all.Given as goal

abbrev pub decreases-loop-at : goal.decreases-loop-at
decreases-loop-at l = l.to - l.at

abbrev pub invariant-loop-at : goal.invariant-loop-at
invariant-loop-at l = record {
  from : l.from ≤ l.at;
  before : l.at ≤ l.to;
  alike : (i : ℕ) → l.from ≤ i → i < l.at → get_or l.values i false ≡ l.value;
}
