use Rattle.std.proofs.Common.{◌≡◌, ◌+◌, ◌*◌, ◌%◌, ◌<◌, ◌++◌, ◌≤◌, length}
use Rattle.columns_core.specs.Bits.{bits_from}
use Rattle.columns_core.proofs.mutable_bitmap.MutableBitmap.push_bytes.Given as goal

abbrev pub invariant-loop-i : goal.invariant-loop-i
invariant-loop-i l = (l.self.0 ≡ l.fn.self.0 ++ bits_from l.slice l.offset (8 * l.i)) × (l.fn.self.1 ≤ l.self.1 + 8 * l.i) × (0 < l.count → length l.self.0 % 8 ≡ 0)
