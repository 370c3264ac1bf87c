use Rattle.std.proofs.Common.{◌≡◌, ℕ, ◌<◌, ◌≤◌, get_or}
use Rattle.read_walk.proofs.folds.any_below.Given as goal

abbrev pub invariant-loop-level : goal.invariant-loop-level
invariant-loop-level l = l.any ≡ 0 → (k : ℕ) → k < l.level-index → l.floor ≤ get_or l.levels k 0
