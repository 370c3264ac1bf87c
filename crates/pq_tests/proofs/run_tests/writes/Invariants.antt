use Rattle.std.proofs.Common.{◌≡◌}
use Rattle.pq_tests.proofs.run_tests.writes.Given as goal

abbrev pub invariant-loop-number : goal.invariant-loop-number
invariant-loop-number l = l.writer.width ≡ l.width
