use Rattle.std.proofs.Common.{◌≡◌, ◌+◌, ◌-◌, ◌≤◌, ◌++◌}
use Rattle.columns_core.specs.Bits.{bits_from}
use Rattle.read_leaf.proofs.truths.append_bits.Given as goal

abbrev pub decreases-loop-done : goal.decreases-loop-done
decreases-loop-done l = l.count - l.done

abbrev pub invariant-loop-done : goal.invariant-loop-done
invariant-loop-done l = (l.values.0 ≡ l.fn.values.0 ++ bits_from l.bytes l.bit l.done) × (l.count ≤ l.values.1 + l.done) × (l.done ≤ l.count)
