use Rattle.std.proofs.Common.{◌≤◌, ◌-◌, length, map, take}
use Rattle.shredding.specs.Slot.{number}
use Rattle.pq_tree.specs.Views.{physical_view}
use Rattle.write_values.specs.Rows.{AppendsRow}
use Rattle.write_values.proofs.numbers.push_long.Given as goal

abbrev pub decreases-loop-at : goal.decreases-loop-at
decreases-loop-at g l = length l.values - l.at

abbrev pub invariant-loop-at : goal.invariant-loop-at
invariant-loop-at g l =
    (l.at ≤ length l.values)
    × AppendsRow (physical_view g.P.ParquetNativeType.physical) l.fn.out.items l.out.items (map (λ x. number (g.T.StoredAs.stored_number x)) (take l.at l.values))
