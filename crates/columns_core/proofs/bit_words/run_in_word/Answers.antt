use Rattle.std.proofs.Common.{true≢false, sym, ◌∙◌}
use Rattle.columns_core.proofs.Words.{ones_run, ones_end, zeros_run, zeros_end}
use Rattle.columns_core.proofs.bit_words.run_in_word.Goals as goal

pub returns-then-value-clause-alike : goal.returns-then-value-clause-alike
returns-then-value-clause-alike c = λ i h. ones_run c.args.word c.ranges.word.fits i (rw c.trailing_ones.ensures at h) ∙ sym c.if-value.true

pub returns-then-value-clause-ended : goal.returns-then-value-clause-ended
returns-then-value-clause-ended c = rw c.trailing_ones.ensures (λ h e. true≢false (sym c.if-value.true ∙ sym e ∙ ones_end c.args.word c.ranges.word.fits h))

pub returns-else-value-clause-alike : goal.returns-else-value-clause-alike
returns-else-value-clause-alike c = λ i h. zeros_run c.args.word c.ranges.word.fits i h ∙ sym c.if-value.false

pub returns-else-value-clause-ended : goal.returns-else-value-clause-ended
returns-else-value-clause-ended c = λ h e. true≢false (sym (zeros_end c.args.word c.ranges.word.fits h) ∙ e ∙ c.if-value.false)
