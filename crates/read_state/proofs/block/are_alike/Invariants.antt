use Rattle.std.proofs.Common.{◌≡◌, ℕ, ◌<◌, get_or}
use Rattle.read_state.proofs.block.are_alike.Given as goal

abbrev pub invariant-loop-j : goal.invariant-loop-j
invariant-loop-j l = record {
  reps : (k : ℕ) → k < l.j → get_or l.reps k 0 ≡ l.rep;
  defs : (k : ℕ) → k < l.j → get_or l.defs k 0 ≡ l.def;
}
