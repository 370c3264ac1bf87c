use Rattle.std.proofs.Common.{◌-◌, ◌≡◌, ◌<◌, ◌+◌, ◌^◌}
use Rattle.pq_delta_reads.specs.Waiting.{value_of}
use Rattle.pq_delta_reads.proofs.bits.take.Given as goal

abbrev pub invariant-loop-bits : goal.invariant-loop-bits
invariant-loop-bits l = record {
  small : l.bits.held < 2 ^ l.bits.count;
  few : l.bits.count < 64 + l.width;
  room : l.bits.count < 128;
  same : value_of l.bits ≡ value_of l.fn.bits;
}

abbrev pub decreases-loop-bits : goal.decreases-loop-bits
decreases-loop-bits l = l.width - l.bits.count
