use Rattle.std.proofs.Common.{arith, ap, ◌∙◌, ◌++◌, List, ℕ}
use Rattle.dictionary_columns.proofs.KeyText.{wide_on}
use Rattle.dictionary_columns.proofs.page.wide_keys.Goals as goal

pub loop-i-preserved : goal.loop-i-preserved
loop-i-preserved c = wide_on c.loop-i.i c.loop-i.body.items c.extend_from_slice.new.self.items (omega arith) c.loop-i.invariant (c.in_ok-extend_from_slice.ensures.items ∙ ap (λ (bs : List ℕ). c.loop-i.body.items ++ bs) c.to_le_bytes.ensures)
