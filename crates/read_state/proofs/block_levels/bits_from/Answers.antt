use Rattle.std.proofs.Common.{nat_le, arith}
use Rattle.read_state.proofs.ToldBits.{all-word, no-word, set-word, le-is, le-not}
use Rattle.read_state.proofs.block_levels.bits_from.Goals as goal

pub returns-then-least-eq0 : goal.returns-then-least-eq0
returns-then-least-eq0 c = all-word (λ d. nat_le c.args.least d) (le-is c.args.least 1 (omega (arith, c.if-least-eq0.true))) (le-is c.args.least 0 (omega (arith, c.if-least-eq0.true))) c.args.word

pub returns-then-least-eq1 : goal.returns-then-least-eq1
returns-then-least-eq1 c = set-word (λ d. nat_le c.args.least d) (le-is c.args.least 1 (omega (arith, c.if-least-eq1.true))) (le-not c.args.least 0 (omega (arith, c.if-least-eq1.true))) c.args.word

pub returns-else-least-eq1 : goal.returns-else-least-eq1
returns-else-least-eq1 c = no-word (λ d. nat_le c.args.least d) (le-not c.args.least 1 (omega (arith, c.if-least-eq0.false, c.if-least-eq1.false))) (le-not c.args.least 0 (omega (arith, c.if-least-eq0.false))) c.args.word
