use Rattle.std.proofs.Common.{◌≡◌, ◌+◌, length}
use Rattle.read_column.specs.Deltas.{HasFault, present_in}
use Rattle.read_column.proofs.deltas.count_present.Given as goal

-- counted so far, and still to come
abbrev pub invariant-runs : goal.invariant-runs
invariant-runs l = (l.count + present_in l.max_definition l.pairs ≡ present_in l.fn.max_definition l.fn.pairs) × (HasFault l.pairs → HasFault l.fn.pairs) × (l.max_definition ≡ l.fn.max_definition)

abbrev pub decreases-runs : goal.decreases-runs
decreases-runs l = length l.pairs
