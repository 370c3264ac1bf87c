use Rattle.std.proofs.Common.{arith}
use Rattle.dictionary_columns.proofs.KeyText.{small_on}
use Rattle.dictionary_columns.proofs.page.small_keys.Goals as goal

pub loop-i-preserved : goal.loop-i-preserved
loop-i-preserved c = small_on c.loop-i.i c.loop-i.body.items c.push_u32_le.new.out.items (omega arith) c.loop-i.invariant c.in_ok-push_u32_le.ensures.ok
