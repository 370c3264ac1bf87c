use Rattle.std.proofs.Common.{◌≡◌, ◌+◌, ◌*◌, ◌%◌, ◌<◌, ◌≤◌, ◌++◌, length, replicate}
use Rattle.columns_core.proofs.mutable_bitmap.MutableBitmap.push_whole.Given as goal

abbrev pub invariant-loop-rest : goal.invariant-loop-rest
invariant-loop-rest l = record {
  same : l.self.0 ++ replicate (8 * l.rest) l.value ≡ l.fn.self.0 ++ replicate (8 * l.count) l.value;
  room : 8 * l.rest ≤ l.self.1;
  filled : 0 < l.rest → length l.self.0 % 8 ≡ 0;
  grown : l.fn.self.1 + 8 * l.rest ≤ l.self.1 + 8 * l.count;
}

abbrev pub decreases-loop-rest : goal.decreases-loop-rest
decreases-loop-rest l = l.rest
