use Rattle.std.proofs.Common.{◌≡◌, ◌*◌, [], length, map, take}
use Rattle.shredding.specs.Slot.{number}
use Rattle.pq_tree.specs.Views.{physical_view}
use Rattle.write_values.specs.Rows.{AppendsRow}
use Rattle.write_values.proofs.numbers.fill_block.Given as goal

abbrev pub invariant-loop-i : goal.invariant-loop-i
invariant-loop-i g l =
    (length l.block ≡ length l.fn.block)
    × AppendsRow (physical_view g.P.ParquetNativeType.physical) [] (take (g.P.PlainNumber.byte_count * l.i) l.block) (map (λ x. number (g.T.StoredAs.stored_number x)) (take l.i l.values))
