use Rattle.std.proofs.Common.{◌≡◌, ◌≤◌, ◌+◌, ℕ, Bool, drop, None}
use Rattle.read_laws.specs.State.{kept_leaf, kept_struct}
use Rattle.read_laws.specs.Block.{pushed_all}
use Rattle.read_state.specs.Marks.{marks_of}
use Rattle.read_state.proofs.block.count_each.Given as goal

abbrev pub invariant-loop-j : goal.invariant-loop-j
invariant-loop-j l = record {
  few : l.count ≤ l.j;
  leaf : (n : Bool) → (c place : ℕ) → pushed_all (kept_leaf n c) place l.depth l.def (marks_of l.reps l.defs l.hidden) ≡ pushed_all (kept_leaf n (c + l.count)) 0 l.depth l.def (marks_of (drop l.j l.reps) (drop l.j l.defs) (drop l.j l.hidden));
  required : (c place : ℕ) → pushed_all (kept_struct None c) place l.depth l.def (marks_of l.reps l.defs l.hidden) ≡ pushed_all (kept_struct None (c + l.count)) 0 l.depth l.def (marks_of (drop l.j l.reps) (drop l.j l.defs) (drop l.j l.hidden));
}
