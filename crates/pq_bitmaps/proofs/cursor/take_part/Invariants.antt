use Rattle.std.proofs.Common.{◌≡◌, ◌+◌, ◌++◌, length}
use Rattle.pq_bitmaps.specs.Called.{IsPart, bits_in, given_bits, bits_called}
use Rattle.pq_bitmaps.proofs.cursor.take_part.Given as goal

abbrev pub invariant-loop-part : goal.invariant-loop-part
invariant-loop-part l = record {
  is : IsPart l.part;
  count : l.cursor.left + length (bits_in l.part) ≡ l.fn.cursor.left;
  bits : bits_called l.fn.cursor.left l.fn.cursor.bytes.now ≡ given_bits (bits_in l.part) ++ bits_called l.cursor.left l.cursor.bytes.now;
}

abbrev pub decreases-loop-part : goal.decreases-loop-part
decreases-loop-part l = length l.cursor.bytes.now
