use Rattle.std.proofs.Common.{◌≡◌, ◌≤◌, ◌+◌, ◌-◌, ◌*◌, length, map, take, min}
use Rattle.shredding.specs.Slot.{number}
use Rattle.pq_tree.specs.Views.{physical_view}
use Rattle.write_values.specs.Rows.{AppendsRow}
use Rattle.write_values.proofs.numbers.put_first.Given as goal

abbrev pub invariant-loop-value : goal.invariant-loop-value
invariant-loop-value g l =
    (l.next + (length l.values - l.value-index) * g.P.PlainNumber.byte_count ≤ length l.places)
    × (length l.places ≡ length l.fn.places)
    × (l.next ≡ l.at + l.value-index * g.P.PlainNumber.byte_count)
    × AppendsRow (physical_view g.P.ParquetNativeType.physical) (take l.at l.fn.places) (take (l.at + min l.value-index l.few * g.P.PlainNumber.byte_count) l.places) (map (λ x. number (g.T.StoredAs.stored_number x)) (take (min l.value-index l.few) l.values))
