use Rattle.std.proofs.Common.{◌++◌, ◌∙◌, ap, arith, List, ℕ}
use Rattle.pq_runs.proofs.HeldBits.{bits-digits, two_halves, high_half}
use Rattle.pq_runs.proofs.bit_block.BitBlock.add_word.Goals as goal

pub returns-then-count-le32 : goal.returns-then-count-le32
returns-then-count-le32 c = c.add.ensures ∙ ap (λ (t : List ℕ). c.args.self.now ++ t) (bits-digits c.args.word c.args.count)

pub add-requires-3-clause-low : goal.add-requires-3-clause-low
add-requires-3-clause-low c = high_half c.args.word c.args.count (omega (arith, c.if-count-le32.false)) c.requires.low

pub returns : goal.returns
returns c = two_halves c.args.self.now c.add-2.new.self c.add-3.new.self c.args.word c.args.count (omega (arith, c.if-count-le32.false)) c.add-2.ensures c.add-3.ensures
