use Rattle.std.proofs.Common.{arith}
use Rattle.read_walk.proofs.narrow.are_bytes.Goals as goal

pub returns-else-block_bits-gt255 : goal.returns-else-block_bits-gt255
returns-else-block_bits-gt255 c _ k h = omega (arith, c.block_bits.ensures k h, c.if-block_bits-gt255.false)
