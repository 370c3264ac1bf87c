use Rattle.std.proofs.Common.{◌-◌, ◌≤◌}
use Rattle.schema_to_tree.proofs.Lengths.{Short}
use Rattle.schema_to_tree.proofs.decimals.decimal_length_from_precision.Given as goal

abbrev pub invariant-loop-length : goal.invariant-loop-length
invariant-loop-length l = record { from_one : 1 ≤ l.length; to_16 : l.length ≤ 16; short : Short l.fn.precision l.length }

abbrev pub decreases-loop-length : goal.decreases-loop-length
decreases-loop-length l = 16 - l.length
