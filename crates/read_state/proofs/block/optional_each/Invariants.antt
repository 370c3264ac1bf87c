use Rattle.std.proofs.Common.{◌≡◌, ◌≤◌, ◌+◌, Some, drop}
use Rattle.read_laws.specs.State.{kept_list}
use Rattle.read_laws.specs.Block.{pushed_all}
use Rattle.read_state.specs.Kinds.{starts_of}
use Rattle.read_state.specs.Marks.{marks_of}
use Rattle.read_state.proofs.block.optional_each.Given as goal

abbrev pub invariant-loop-j : goal.invariant-loop-j
invariant-loop-j l = record {
  place : l.place ≤ l.first + l.j;
  all : pushed_all (kept_list (Some l.validity.0) (starts_of l.lengths.items)) l.place l.depth l.def (marks_of (drop l.j l.reps) (drop l.j l.defs) (drop l.j l.hidden)) ≡ pushed_all (kept_list (Some l.initial.validity.0) (starts_of l.initial.lengths.items)) l.first l.depth l.def (marks_of l.reps l.defs l.hidden);
}
