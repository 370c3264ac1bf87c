use Rattle.std.proofs.Common.{◌≡◌, ◌*◌, ◌/◌, ◌^◌, take}
use Rattle.pq_numbers.specs.Bits.{digits_of}
use Rattle.read_walk.proofs.bits.put_few.Given as goal

abbrev pub invariant-loop-i : goal.invariant-loop-i
invariant-loop-i l = record {
  filled : take l.i l.out ≡ digits_of (2 ^ l.width) l.i l.word;
  left : l.left ≡ l.word / 2 ^ (l.width * l.i);
}
