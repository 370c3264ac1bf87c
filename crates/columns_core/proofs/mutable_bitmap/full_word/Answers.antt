use Rattle.columns_core.proofs.Words.{ones_word, zeros_word}
use Rattle.columns_core.proofs.mutable_bitmap.full_word.Goals as goal

pub returns-then-value : goal.returns-then-value
returns-then-value c = λ n h. rw c.if-value.true (ones_word n h)

pub returns-else-value : goal.returns-else-value
returns-else-value c = λ n h. rw c.if-value.false (zeros_word n)
