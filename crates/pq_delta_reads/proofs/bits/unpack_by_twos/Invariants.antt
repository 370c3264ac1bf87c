use Rattle.std.proofs.Common.{◌≡◌, ◌≤◌, ◌+◌, ◌-◌, ◌*◌, ◌%◌, ◌++◌, length, take}
use Rattle.pq_numbers.specs.Bits.{unpacked}
use Rattle.pq_numbers.proofs.Bytes.{AreBytes}
use Rattle.pq_delta_reads.specs.Blocks.{block_of}
use Rattle.pq_delta_reads.proofs.bits.unpack_by_twos.Given as goal

abbrev pub invariant-loop-at : goal.invariant-loop-at
invariant-loop-at l = record {
  are : AreBytes l.rest;
  eights : l.at % 8 ≡ 0;
  most : l.at ≤ 32;
  enough : l.width * (32 - l.at) + 64 ≤ 8 * length l.rest;
  size : length l.numbers ≡ 32;
  so_far : take l.at l.numbers ++ unpacked l.width (32 - l.at) l.rest ≡ block_of l.width l.bytes;
}

abbrev pub decreases-loop-at : goal.decreases-loop-at
decreases-loop-at l = 32 - l.at
