use Rattle.std.proofs.Common.{◌≡◌, ◌+◌, ◌-◌, ◌≤◌, ◌++◌, vec_len, vec_capacity}
use Rattle.read_laws.specs.Step.{rising}
use Rattle.read_state.specs.Kinds.{starts_of}
use Rattle.read_state.proofs.pushes.fill_rising.Given as goal

abbrev pub invariant-loop-i : goal.invariant-loop-i
invariant-loop-i l = record {
  room : vec_len l.lengths + (l.count - l.i) ≤ vec_capacity l.lengths;
  all : starts_of l.lengths.items ++ rising (l.first + l.i) 1 (l.count - l.i) ≡ starts_of l.initial.lengths.items ++ rising l.first 1 l.count;
}
