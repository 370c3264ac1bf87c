use Rattle.std.proofs.Common.{◌-◌, ◌≡◌, ◌++◌, ◌^◌, length, take}
use Rattle.pq_numbers.specs.Bits.{digits_of, unpacked}
use Rattle.pq_delta_reads.specs.Waiting.{AreWaiting, value_of}
use Rattle.pq_delta_reads.proofs.bits.unpack.Given as goal

abbrev pub invariant-loop-number : goal.invariant-loop-number
invariant-loop-number l = record {
  are : AreWaiting l.bits;
  unpacks : take l.number-index l.out ++ digits_of (2 ^ l.width) (length l.out - l.number-index) (value_of l.bits) ≡ unpacked l.width (length l.out) l.bytes;
}
