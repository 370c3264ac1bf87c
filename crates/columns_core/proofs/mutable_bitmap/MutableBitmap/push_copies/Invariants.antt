use Rattle.std.proofs.Common.{◌≡◌, ◌+◌, ◌++◌, ◌≤◌, replicate}
use Rattle.columns_core.proofs.mutable_bitmap.MutableBitmap.push_copies.Given as goal

abbrev pub invariant-loop-i : goal.invariant-loop-i
invariant-loop-i l = (l.self.0 ≡ l.fn.self.0 ++ replicate l._i l.value) × (l.fn.self.1 ≤ l.self.1 + l._i)
