use Rattle.std.proofs.Common.{◌≡◌, ◌*◌, ◌/◌, ◌^◌, take}
use Rattle.pq_numbers.specs.Bits.{digits_of}
use Rattle.pq_numbers.specs.Texts.{number_of}
use Rattle.read_walk.proofs.bits.put_byte_groups.Given as goal

abbrev pub invariant-loop-i : goal.invariant-loop-i
invariant-loop-i l = record {
  filled : take (8 * l.i) l.out ≡ digits_of (2 ^ l.width) (8 * l.i) (number_of l.packed / 2 ^ l.shift);
}
