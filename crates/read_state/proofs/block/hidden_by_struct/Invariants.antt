use Rattle.std.proofs.Common.{◌≡◌, ◌<◌, ℕ, false, true, length, get_or}
use Rattle.read_state.specs.Marks.{hides_at}
use Rattle.read_state.proofs.block.hidden_by_struct.Given as goal

abbrev pub invariant-loop-j : goal.invariant-loop-j
invariant-loop-j l = record {
  size : length l.beneath ≡ 64;
  flags : (k : ℕ) → k < l.j → get_or l.beneath k false ≡ hides_at l.reps l.defs l.hidden l.depth l.def l.nullable true k;
}
