use Rattle.std.proofs.Common.{◌<◌, All, take}
use Rattle.pq_runs.proofs.narrow.are_narrow.Given as goal

abbrev pub invariant-loop-number : goal.invariant-loop-number
invariant-loop-number l = All (λ v. v < 256) (take l.number-index l.numbers)
