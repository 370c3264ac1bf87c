use Rattle.std.proofs.Common.{arith}
use Rattle.std.proofs.lemmas.Grind.{get_or_default_zero}
use Rattle.pq_deltas.proofs.delta_block.width_of.Goals as goal

pub returns-clause-fits : goal.returns-clause-fits
returns-clause-fits c = c.get_bit_width.ensures.least 64 (omega arith)

pub returns-clause-least : goal.returns-clause-least
returns-clause-least c = record {
  holds = λ k d lt. omega (arith, get_or_default_zero c.args.numbers.now k d lt, c.loop-number.invariant.below k (omega arith), c.get_bit_width.ensures.holds);
  least = λ u h. c.get_bit_width.ensures.least u (c.loop-number.invariant.least u (λ k lt. h k 0 (omega arith)));
}
