use Rattle.std.proofs.Common.{◌≡◌, ◌++◌, take}
use Rattle.pq_runs.proofs.numbers.Numbers.append_narrow.Given as goal

abbrev pub invariant-loop-number : goal.invariant-loop-number
invariant-loop-number l = l.self ≡ l.fn.self ++ take l.number-index l.numbers
