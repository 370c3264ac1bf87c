use Rattle.std.proofs.Common.{◌≡◌, ◌++◌, take}
use Rattle.pq_runs.proofs.narrow.NarrowNumbers.append_wide.Given as goal

abbrev pub invariant-loop-number : goal.invariant-loop-number
invariant-loop-number l = l.self ≡ l.fn.self ++ take l.number-index l.numbers
