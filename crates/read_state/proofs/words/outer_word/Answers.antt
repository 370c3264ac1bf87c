use Rattle.std.proofs.Common.{arith}
use Rattle.read_state.proofs.Outer.{outer-all}
use Rattle.read_state.proofs.words.outer_word.Goals as goal

pub returns-then-block_bits-eq0 : goal.returns-then-block_bits-eq0
returns-then-block_bits-eq0 c = outer-all c.args.reps.now c.requires (λ k h. omega (arith, c.block_bits.ensures k h, c.if-block_bits-eq0.true))
