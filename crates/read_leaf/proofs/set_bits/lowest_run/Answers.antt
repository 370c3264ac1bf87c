use Rattle.std.proofs.Common.{◌≡◌, ◌%◌, ◌==◌, ℕ, arith, ap, sym, ◌∙◌}
use Rattle.columns_core.proofs.Words.{ones_run, zeros_run}
use Rattle.read_leaf.proofs.BitRuns.{ones_some, zeros_some}
use Rattle.read_leaf.proofs.set_bits.lowest_run.Goals as goal

pub returns-then-word-eq1-clause-some : goal.returns-then-word-eq1-clause-some
returns-then-word-eq1-clause-some c = omega (arith, c.trailing_ones.ensures, ones_some c.args.word c.ranges.word.fits (ap (λ (k : ℕ). k == 1) c.if-word-eq1.true))

pub returns-then-word-eq1-clause-alike : goal.returns-then-word-eq1-clause-alike
returns-then-word-eq1-clause-alike c i h = ones_run c.args.word c.ranges.word.fits i (rw c.trailing_ones.ensures at h) ∙ ap (λ (k : ℕ). k == 1) (sym c.if-word-eq1.true)

pub returns-else-word-eq1-clause-some : goal.returns-else-word-eq1-clause-some
returns-else-word-eq1-clause-some c =
    let even : c.args.word % 2 ≡ 0 = omega (arith, c.if-word-eq1.false) in
    zeros_some c.args.word c.ranges.word.fits (ap (λ (k : ℕ). k == 1) even)

pub returns-else-word-eq1-clause-alike : goal.returns-else-word-eq1-clause-alike
returns-else-word-eq1-clause-alike c i h =
    let even : c.args.word % 2 ≡ 0 = omega (arith, c.if-word-eq1.false) in
    zeros_run c.args.word c.ranges.word.fits i h ∙ ap (λ (k : ℕ). k == 1) (sym even)
