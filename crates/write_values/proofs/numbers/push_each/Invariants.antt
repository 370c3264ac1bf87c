use Rattle.std.proofs.Common.{map, take}
use Rattle.shredding.specs.Slot.{number}
use Rattle.pq_tree.specs.Views.{physical_view}
use Rattle.write_values.specs.Rows.{AppendsRow}
use Rattle.write_values.proofs.numbers.push_each.Given as goal

abbrev pub invariant-loop-value : goal.invariant-loop-value
invariant-loop-value g l =
    AppendsRow (physical_view g.P.ParquetNativeType.physical) l.fn.out.items l.out.items (map (λ x. number (g.T.StoredAs.stored_number x)) (take l.value-index l.values))
