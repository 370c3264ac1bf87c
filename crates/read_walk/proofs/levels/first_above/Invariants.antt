use Rattle.std.proofs.Common.{◌≡◌, ℕ, ◌<◌, true, get_or}
use Rattle.read_walk.specs.Pairs.{is_within}
use Rattle.read_walk.proofs.levels.first_above.Given as goal

abbrev pub invariant-loop-i : goal.invariant-loop-i
invariant-loop-i l = (k : ℕ) → k < l.i → is_within l.max_rep l.max_def (get_or l.reps k 0, get_or l.defs k 0) ≡ true
