use Rattle.std.proofs.Common.{nat_le, arith}
use Rattle.read_state.proofs.ToldBits.{all-word, clear-word, le-is, le-not}
use Rattle.read_state.proofs.block_levels.bits_to.Goals as goal

pub returns-then-most-eq0 : goal.returns-then-most-eq0
returns-then-most-eq0 c = clear-word (λ d. nat_le d c.args.most) (le-not 1 c.args.most (omega (arith, c.if-most-eq0.true))) (le-is 0 c.args.most (omega arith)) c.args.word c.ranges.word.fits

pub returns-else-most-eq0 : goal.returns-else-most-eq0
returns-else-most-eq0 c = all-word (λ d. nat_le d c.args.most) (le-is 1 c.args.most (omega (arith, c.if-most-eq0.false))) (le-is 0 c.args.most (omega arith)) c.args.word
