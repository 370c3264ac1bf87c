use Rattle.std.proofs.Common.{◌≡◌, IsTrue, replicate, take}
use Rattle.pq_runs.proofs.changes.are_all_narrow.Given as goal

abbrev pub invariant-loop-other : goal.invariant-loop-other
invariant-loop-other l = IsTrue l.same → take l.other-index l.numbers ≡ replicate l.other-index l.number
