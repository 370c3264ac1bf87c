use Rattle.std.proofs.Common.{◌≡◌, ◌+◌, ◌-◌, ◌*◌, ◌^◌, ◌<◌, ◌≤◌, ◌++◌, length, take}
use Rattle.pq_numbers.specs.Bits.{digits_of, unpacked}
use Rattle.pq_numbers.proofs.Bytes.{AreBytes, from_bit}
use Rattle.pq_runs.proofs.bits.unpack.Given as goal

abbrev pub invariant-loop-number : goal.invariant-loop-number
invariant-loop-number l = record {
  small : l.shift < 8;
  enough : l.shift + l.width * (length l.out - l.number-index) ≤ 8 * length l.rest;
  are : AreBytes l.rest;
  unpacks : take l.number-index l.out ++ digits_of (2 ^ l.width) (length l.out - l.number-index) (from_bit l.shift l.rest) ≡ unpacked l.width (length l.out) l.bytes;
}
