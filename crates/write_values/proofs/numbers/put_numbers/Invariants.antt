use Rattle.std.proofs.Common.{◌≡◌, ◌≤◌, ◌+◌, ◌-◌, ◌*◌, [], length, map, take}
use Rattle.shredding.specs.Slot.{number}
use Rattle.pq_tree.specs.Views.{physical_view}
use Rattle.write_values.specs.Rows.{AppendsRow}
use Rattle.write_values.proofs.numbers.put_numbers.Given as goal

abbrev pub invariant-loop-value : goal.invariant-loop-value
invariant-loop-value g l =
    (l.at + (length l.values - l.value-index) * g.P.PlainNumber.byte_count ≤ length l.places)
    × (length l.places ≡ length l.fn.places)
    × AppendsRow (physical_view g.P.ParquetNativeType.physical) [] (take l.at l.places) (map (λ x. number (g.T.StoredAs.stored_number x)) (take l.value-index l.values))
