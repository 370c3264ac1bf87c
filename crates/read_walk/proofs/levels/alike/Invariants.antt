use Rattle.std.proofs.Common.{◌≡◌, ℕ, ◌+◌, ◌-◌, ◌<◌, ◌≤◌, get_or}
use Rattle.read_walk.proofs.levels.alike.Given as goal

abbrev pub invariant-loop-count : goal.invariant-loop-count
invariant-loop-count l = record {
  some : 0 < l.count;
  within : l.at + l.count ≤ l.end;
  alike : (k : ℕ) → k < l.count → (get_or l.reps (l.at + k) 0 ≡ l.rep) × (get_or l.defs (l.at + k) 0 ≡ l.def);
}

abbrev pub decreases-loop-count : goal.decreases-loop-count
decreases-loop-count l = l.end - l.count
