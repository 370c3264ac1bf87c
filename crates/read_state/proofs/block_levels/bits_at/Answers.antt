use Rattle.std.proofs.Common.{nat_eq, arith}
use Rattle.read_state.proofs.ToldBits.{no-word, set-word, clear-word, eq-is, eq-not}
use Rattle.read_state.proofs.block_levels.bits_at.Goals as goal

pub returns-then-level-eq0 : goal.returns-then-level-eq0
returns-then-level-eq0 c = clear-word (λ d. nat_eq d c.args.level) (eq-not 1 c.args.level (λ e. omega (arith, e, c.if-level-eq0.true))) (eq-is 0 c.args.level (omega (arith, c.if-level-eq0.true))) c.args.word c.ranges.word.fits

pub returns-then-level-eq1 : goal.returns-then-level-eq1
returns-then-level-eq1 c = set-word (λ d. nat_eq d c.args.level) (eq-is 1 c.args.level (omega (arith, c.if-level-eq1.true))) (eq-not 0 c.args.level (λ e. omega (arith, e, c.if-level-eq1.true))) c.args.word

pub returns-else-level-eq1 : goal.returns-else-level-eq1
returns-else-level-eq1 c = no-word (λ d. nat_eq d c.args.level) (eq-not 1 c.args.level (λ e. c.if-level-eq1.false (omega (arith, e)))) (eq-not 0 c.args.level (λ e. c.if-level-eq0.false (omega (arith, e)))) c.args.word
