use Rattle.read_leaf.proofs.EqualBits.{ones, zeros}
use Rattle.read_leaf.proofs.primitive.equal_bits.Goals as goal

pub returns-then-bit : goal.returns-then-bit
returns-then-bit c n h = rw c.if-bit.true (ones n 64 h)

pub returns-else-bit : goal.returns-else-bit
returns-else-bit c n h = rw c.if-bit.false (zeros n)
