use Rattle.std.proofs.Common.{◌≡◌, ◌<◌, ℕ, IsTrue}
use Rattle.std.specs.Prelude.{slice_index_or}
use Rattle.read_state.proofs.same.all_bytes.Given as goal

abbrev pub invariant-loop-i : goal.invariant-loop-i
invariant-loop-i l = IsTrue l.same → (j : ℕ) → j < l.i → slice_index_or l.a j 0 ≡ slice_index_or l.b j 0
