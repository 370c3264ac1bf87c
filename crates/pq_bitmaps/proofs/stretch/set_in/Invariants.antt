use Rattle.std.proofs.Common.{◌≡◌, ◌+◌}
use Rattle.columns_core.specs.Bits.{bits_from}
use Rattle.pq_bitmaps.specs.Selected.{set_bits}
use Rattle.pq_bitmaps.proofs.stretch.set_in.Given as goal

abbrev pub invariant-loop-is_set : goal.invariant-loop-is_set
invariant-loop-is_set l = l.set + set_bits (bits_from l.is_set-iterator.values.now l.is_set-iterator.at l.is_set-iterator.left) ≡ set_bits (bits_from l.fn.values l.fn.offset l.fn.count)
