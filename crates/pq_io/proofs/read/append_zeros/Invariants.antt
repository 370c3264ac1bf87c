use Rattle.std.proofs.Common.{◌≡◌, ◌≤◌, ◌-◌, ◌++◌, length, replicate}
use Rattle.pq_io.proofs.read.append_zeros.Given as goal

abbrev pub invariant-loop-bytes : goal.invariant-loop-bytes
invariant-loop-bytes l = record {
  within : length l.bytes.items ≤ l.end;
  same : l.bytes.items ++ replicate (l.end - length l.bytes.items) 0 ≡ l.fn.bytes.items ++ replicate l.count 0;
}

abbrev pub decreases-loop-bytes : goal.decreases-loop-bytes
decreases-loop-bytes l = l.end - length l.bytes.items
