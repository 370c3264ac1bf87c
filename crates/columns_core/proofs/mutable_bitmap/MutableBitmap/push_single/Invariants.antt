use Rattle.std.proofs.Common.{◌≡◌, ◌+◌, ◌++◌, ◌≤◌}
use Rattle.columns_core.specs.Bits.{bits_from}
use Rattle.columns_core.proofs.mutable_bitmap.MutableBitmap.push_single.Given as goal

abbrev pub invariant-loop-i : goal.invariant-loop-i
invariant-loop-i l = (l.self.0 ≡ l.fn.self.0 ++ bits_from l.slice l.offset l.i) × (l.fn.self.1 ≤ l.self.1 + l.i)
